use Rattle.std.proofs.Common.{ap, sym, ◌∙◌}
use Rattle.definition.specs.Date.{from_days}
use Rattle.date.specs.Answer.{weekday_at}
use Rattle.calendar.specs.Week.{flags_in, flag_on}
use Rattle.calendar.proofs.Flags.{works_is}
use Rattle.calendar.proofs.week.works.Goals as goal

pub returns-in_default : goal.returns-in_default
unfolding weekday_at
returns-in_default c =
    let a = c.args in
    ap (flag_on (flags_in a.week)) (sym c.in_default.is ∙ c.weekday.ensures) ∙ works_is (flags_in a.week) (from_days a.day.0)

pub returns : goal.returns
unfolding weekday_at
returns c =
    let a = c.args in
    c.flag_at.ensures ∙ ap (flag_on (flags_in a.week)) (sym c.in-Some.is ∙ c.weekday.ensures) ∙ works_is (flags_in a.week) (from_days a.day.0)
