use Rattle.std.proofs.Common.{◌≡◌, ◌<◌, ◌^◌, length, refl, sym, ap, ◌∙◌, arith}
use Rattle.definition.specs.Ascii.{bytes}
use Rattle.definition.specs.Tree.{all}
use Rattle.definition.specs.Resource.{assignment_elements}
use Rattle.tree.specs.Few.{children_few}
use Rattle.tree.specs.Place.{meaning, left}
use Rattle.tree.specs.Root.{root_at, in_assignments}
use Rattle.assignments.specs.Records.{ends_at}
use Rattle.assignments.proofs.Writing.{go_all, go_more, go_end, notes_not, notes_said, table_behind, table_none, table_below}
use Rattle.assignments.proofs.expense.put_all.Goals as goal

pub loop-e-init : goal.loop-e-init
loop-e-init c =
    let a = c.args in
    let root = a.tables.root in
    let n = ends_at a.tables in
    let h = c.end-end.ensures in
    let m = c.table_behind-made.ensures in
    let e : left c.into_iter-e-iterator.result ≡ assignment_elements (root_at root) = ap left c.into_iter-e-iterator.ensures.into_iter_gives ∙ c.children-e-items.ensures ∙ ap (λ x. all (meaning x) (bytes "Assignment")) c.part-section.ensures ∙ sym (in_assignments root (bytes "Assignment")) in
    (refl, rw c.none.ensures (go_all _ e (table_behind n a.words.now _ h m.0) (table_none n a.words.now _ h m.0 m.1 a.p)))

pub loop-e-preserved-in-Some-charge_of : goal.loop-e-preserved-in-Some-charge_of
loop-e-preserved-in-Some-charge_of c =
    let t = c.args.tables in
    let few : length (assignment_elements (root_at t.root)) < 2 ^ 63 = omega (arith, ap length (in_assignments t.root (bytes "Assignment")), children_few t.root.tree.now t.root.assignments (bytes "Assignment"), c.are_bytes.ensures.few) in
    (c.put_new-used.auto.out ∙ c.loop-e.invariant.0, go_more t c.are_bytes.ensures.bytes few c.in-Some.ensures.steps c.loop-e.invariant.1 (notes_said _ (meaning c.in-Some.e) c.charge_of.ensures c.in-Some-charge_of.is c.put_new-used.ensures))

pub loop-e-preserved : goal.loop-e-preserved
loop-e-preserved c =
    let t = c.args.tables in
    let few : length (assignment_elements (root_at t.root)) < 2 ^ 63 = omega (arith, ap length (in_assignments t.root (bytes "Assignment")), children_few t.root.tree.now t.root.assignments (bytes "Assignment"), c.are_bytes.ensures.few) in
    (c.loop-e.invariant.0, go_more t c.are_bytes.ensures.bytes few c.in-Some.ensures.steps c.loop-e.invariant.1 (notes_not _ (meaning c.in-Some.e) c.charge_of.ensures c.in_default.is))

pub returns : goal.returns
returns c =
    let a = c.args in
    let m = c.table_behind-made.ensures in
    go_end a.tables (table_below (ends_at a.tables) a.words.now _ c.end-end.ensures m.0 m.1) c.loop-e.invariant.1 c.in-None.ensures.steps.0
