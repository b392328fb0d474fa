use Rattle.model.specs.Parts.{expense_parts}
use Rattle.model.specs.Passes.{◌⨾◌, ended}
use Rattle.model.proofs.Single.{pass_number, pass_optional_number}
use Rattle.model.proofs.records.skip_expense.Goals as goal

pub returns : goal.returns
unfolding expense_parts
returns g c =
    let fields = c.skip-a.ensures ⨾ c.skip_text-b.ensures ⨾ pass_number c.skip-c.ensures ⨾ pass_number c.skip-d.ensures ⨾ pass_optional_number c.skip_optional-e.ensures ⨾ c.skip_code.ensures in
    ended fields c.take_pad.ensures
