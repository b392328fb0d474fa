use Rattle.std.proofs.Common.{refl, sym, ap, ◌∙◌}
use Rattle.tree.specs.Walks.{siblings_left}
use Rattle.tree.proofs.Rows.{below_cut, below_whole}
use Rattle.tree.proofs.Parts.{parts_begin, parts_next, parts_end}
use Rattle.tree.proofs.root.root_of.Goals as goal

pub returns-in_default-clause-parts : goal.returns-in_default-clause-parts
returns-in_default-clause-parts c = parts_end c.args.e refl (parts_begin c.args.e (sym (below_cut c.args.e.tree.now c.args.e.at c.in_default.ensures)) c.nowhere-r.ensures.parts)

pub loop-child-init : goal.loop-child-init
loop-child-init c =
    let i = c.into_iter-child-iterator.ensures.into_iter_gives in
    (c.nowhere-r.ensures.tree, ap (λ i. i.tree.now) i, parts_begin c.args.e (ap siblings_left i ∙ sym (below_whole c.args.e.tree.now c.args.e.at c.in-Some.ensures)) c.nowhere-r.ensures.parts, tt, tt)

pub loop-child-preserved : goal.loop-child-preserved
loop-child-preserved c =
    let i = c.loop-child.invariant in
    let g = c.in-Some-2.ensures.steps in
    (c.note_all-r.ensures.tree ∙ i.0, g.tree ∙ i.1, parts_next c.args.e g i.1 c.note_all-r.ensures.parts i.2, tt, tt)

pub returns-clause-parts : goal.returns-clause-parts
returns-clause-parts c = parts_end c.args.e c.in-None.ensures.steps.0 c.loop-child.invariant.2
