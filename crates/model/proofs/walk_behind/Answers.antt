-- A reader at the links passes over them and over the three sections behind. Assumes nothing.
use Rattle.std.specs.Prelude.{◌≡◌}
use Rattle.std.proofs.Common.{refl}
use Rattle.model.specs.Sections.{PassesRecords}
use Rattle.model.specs.declared.records.Kind.TheVariants.{Links, Resources, Assignments, Expenses}
use Rattle.model.proofs.Through.{behind, same_bytes, passed}
use Rattle.model.proofs.walk_behind.Goals as goal

pub returns : goal.returns
returns c =
    let s = c.args.s.now in
    let n = c.args.n in
    let a = c.past_records-resources in
    let b = c.past_records-assignments in
    let d = c.past_records-expenses in
    let e = c.past_records-end in
    let ea : a.result.model.now ≡ s = same_bytes (PassesRecords Links n.value.links) s (record { model = c.args.s; place = c.args.links }) a.result a.ensures refl in
    let eb : b.result.model.now ≡ s = same_bytes (PassesRecords Resources n.value.resources) s a.result b.result b.ensures ea in
    let ed : d.result.model.now ≡ s = same_bytes (PassesRecords Assignments n.value.assignments) s b.result d.result d.ensures eb in
    behind {n = n} {h = c.args.head} a.ensures.1
    (passed (PassesRecords Resources n.value.resources) s a.result b.result b.ensures ea)
    (passed (PassesRecords Assignments n.value.assignments) s b.result d.result d.ensures eb)
    (passed (PassesRecords Expenses n.value.expenses) s d.result e.result e.ensures ed)
