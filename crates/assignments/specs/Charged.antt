-- The expense that a task's row, a cost resource and an Assignment give. Assumes nothing: this is a definition.
use Rattle.definition.specs.Model.{Expense}
use Rattle.definition.specs.Resource.{expense_from}
use Rattle.tree.specs.Place.{meaning}
use Rattle.assignments.specs.declared.expense.Charge.{Charge}

abbrev pub charged : Charge → Expense
charged x = expense_from x.activity (meaning x.resource) (meaning x.assignment)
