use Prim.Native.Nat.{◌≤◌}
use Rattle.definition.specs.Format.{◌⊗◌, date, periods}
use Rattle.day_sheet.proofs.Walks.{Unmet}
use Rattle.day_sheet.proofs.exception_place.Given as goal

abbrev pub invariant-loop : goal.invariant-loop
invariant-loop l = (l.counter ≤ l.end) × Unmet (date ⊗ periods) (λ x. x.0) l.s l.day.0 l.initial.q l.end l.q l.counter
