use Rattle.std.proofs.Common.{◌≡◌, ap, ◌∙◌, rules}
use Rattle.tree.specs.Root.{root_at}
use Rattle.rows.specs.Rows.{calendar_meaning, row_zero}
use Rattle.rows.proofs.Walking.{first_row, row_there}
use Rattle.rows.proofs.built.first_row.Goals as goal

pub returns-clause-is : goal.returns-clause-is
returns-clause-is c =
    let h : c.map.result ≡ row_zero c.first_calendar.result = search rules in
    ap calendar_meaning h ∙ first_row (root_at c.args.root) _ c.first_calendar.ensures.is

pub returns-clause-there : goal.returns-clause-there
returns-clause-there c =
    let h : c.map.result ≡ row_zero c.first_calendar.result = search rules in
    rw h (row_there _ _ c.first_calendar.ensures.there)
