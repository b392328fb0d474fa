use Rattle.calendar.proofs.Weeks.{day_next, day_last}
use Rattle.calendar.proofs.week.week_in.Goals as goal

pub loop-day-preserved : goal.loop-day-preserved
loop-day-preserved c = day_next _ _ _ c.loop-day.invariant c.in-Some.ensures.steps c.with_day-week.ensures

pub returns : goal.returns
returns c = day_last _ _ _ c.loop-day.invariant c.in-None.ensures.steps.0
