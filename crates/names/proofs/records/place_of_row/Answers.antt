-- `names::records::place_of_row` meets its contract. Assumes nothing.
use mathlib.Core.Path.{sym, ◌∙◌}
use Rattle.names.specs.Seen.{place_in, place_out}
use Rattle.names.proofs.records.place_of_row.Goals as goal

pub returns-then-inside : goal.returns-then-inside
returns-then-inside c =
    let a = c.args in
    place_in a.kind a.row c.skip_records-q.ensures (sym c.inside.ensures ∙ c.if-inside.true)

pub returns : goal.returns
returns c =
    let a = c.args in
    place_out a.kind a.row c.skip_records-q.ensures (sym c.inside.ensures ∙ c.if-inside.false)
