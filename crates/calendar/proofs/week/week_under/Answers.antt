use Rattle.std.proofs.Common.{◌∙◌}
use Rattle.tree.specs.Place.{meaning}
use Rattle.tree.specs.Answer.{found_child, none_child}
use Rattle.calendar.specs.Week.{flags_in}
use Rattle.calendar.proofs.Weeks.{days_in_lem, no_days_in}
use Rattle.calendar.proofs.week.week_under.Goals as goal

pub returns-in_default : goal.returns-in_default
returns-in_default c =
    let e = meaning c.args.e in
    no_days_in e (flags_in c.args.base) (none_child e c.child.ensures c.in_default.is)

pub returns : goal.returns
returns c =
    let e = meaning c.args.e in
    c.week_in.ensures ∙ days_in_lem e _ (flags_in c.args.base) (found_child e c.child.ensures c.in-Some.is)
