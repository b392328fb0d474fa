use Rattle.tree.specs.Place.{meaning}
use Rattle.std.proofs.Common.{◌∙◌}
use Rattle.calendar.proofs.Texts.{time_or}
use Rattle.calendar.proofs.hours.time_in.Goals as goal

pub returns : goal.returns
returns c =
    c.time_of.ensures ∙ time_or (meaning c.args.e) c.args.name.now _ c.text_of.ensures
