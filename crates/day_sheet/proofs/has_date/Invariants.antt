use Prim.Native.Nat.{◌≤◌}
use Rattle.definition.specs.Format.{date}
use Rattle.day_sheet.proofs.Walks.{Unmet}
use Rattle.day_sheet.proofs.has_date.Given as goal

abbrev pub invariant-loop : goal.invariant-loop
invariant-loop l = (l.counter ≤ l.end) × Unmet date (λ d. d) l.s l.day.0 l.initial.q l.end l.q l.counter
