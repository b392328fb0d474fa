use Rattle.std.proofs.Common.{◌≤◌}
use Rattle.assignments.proofs.Expenses.{Seeks}
use Rattle.assignments.proofs.expense.Key.is_there.Given as goal

abbrev pub invariant-loop : goal.invariant-loop
invariant-loop l = (l.counter ≤ l.count) × Seeks l.out l.initial.q l.count l.self.activity l.self.name.now l.q l.counter
