use Rattle.std.proofs.Common.{rules}
use Rattle.calendar_days.proofs.RuleDays.{begun, from_start}
use Rattle.calendar_days.proofs.exceptions.Days.of.Goals as goal

pub returns : goal.returns
returns c = begun c.args.rule c.map.result c.map.ensures.cases (λ x y h. search (rules, from_start))
