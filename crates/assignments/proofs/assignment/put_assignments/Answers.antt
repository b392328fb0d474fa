use Rattle.std.proofs.Common.{◌≡◌, refl, sym, ap, ◌∙◌}
use Rattle.definition.specs.Ascii.{bytes}
use Rattle.definition.specs.Tree.{all}
use Rattle.definition.specs.Resource.{assignment_elements}
use Rattle.tree.specs.Place.{meaning, left}
use Rattle.tree.specs.Root.{root_at, in_assignments}
use Rattle.assignments.specs.Records.{finders_at}
use Rattle.assignments.proofs.Assignments.{go_all, go_more, assignments_all, adds_not, adds_said}
use Rattle.assignments.proofs.assignment.put_assignments.Goals as goal

pub loop-e-init : goal.loop-e-init
loop-e-init c =
    let root = c.args.tables.root in
    let e : left c.into_iter-e-iterator.result ≡ assignment_elements (root_at root) = ap left c.into_iter-e-iterator.ensures.into_iter_gives ∙ c.children-e-items.ensures ∙ ap (λ x. all (meaning x) (bytes "Assignment")) c.part-section.ensures ∙ sym (in_assignments root (bytes "Assignment")) in
    (refl, rw c.none-done.ensures (go_all (finders_at c.args.words.now c.args.tables) e))

pub loop-e-preserved-in-Some-assignment_of : goal.loop-e-preserved-in-Some-assignment_of
loop-e-preserved-in-Some-assignment_of c =
    let f = finders_at c.args.words.now c.args.tables in
    (c.put.auto.out ∙ c.loop-e.invariant.0, go_more f c.in-Some.ensures.steps c.loop-e.invariant.1 (adds_said f (meaning c.in-Some.e) c.assignment_of.ensures c.in-Some-assignment_of.is c.put.ensures c.more-done.ensures))

pub loop-e-preserved : goal.loop-e-preserved
loop-e-preserved c =
    let f = finders_at c.args.words.now c.args.tables in
    (c.loop-e.invariant.0, go_more f c.in-Some.ensures.steps c.loop-e.invariant.1 (adds_not f (meaning c.in-Some.e) c.assignment_of.ensures c.in_default.is))

pub returns : goal.returns
returns c =
    let a = c.args in
    assignments_all (finders_at a.words.now a.tables) (root_at a.tables.root) c.loop-e.invariant.1 c.in-None.ensures.steps.0 c.from.ensures
