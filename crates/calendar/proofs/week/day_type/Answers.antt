use Rattle.std.proofs.Common.{◌∙◌}
use Rattle.tree.specs.Place.{meaning}
use Rattle.calendar.proofs.Texts.{type_or}
use Rattle.calendar.proofs.week.day_type.Goals as goal

pub returns : goal.returns
returns c =
    c.whole_of.ensures ∙ type_or (meaning c.args.e) _ c.text_of.ensures
