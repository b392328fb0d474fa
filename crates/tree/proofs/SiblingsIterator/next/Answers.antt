use Rattle.std.proofs.Common.{arith, length, sym, ap, ◌∙◌}
use lib.Arith.{lt_of_le-ne}
use Rattle.tree.proofs.Rows.{name_whole, row_cut, row_end, row_here, row_later, row_under}
use Rattle.tree.proofs.SiblingsIterator.next.Goals as goal

pub returns-then-h-self-clause-steps : goal.returns-then-h-self-clause-steps
returns-then-h-self-clause-steps c = let e = row_end _ _ _ c.in-Some.ensures c.if-h-self.true in (c.loop-h.invariant.0 ∙ e, e)

pub returns-then-h-self-2-clause-steps : goal.returns-then-h-self-2-clause-steps
returns-then-h-self-2-clause-steps c =
    let g = c.in-Some.ensures in
    let i = c.loop-h.invariant in
    record {
      first = i.0 ∙ row_here _ _ _ g c.if-h-self-2.true;
      name = name_whole _ _ g;
      later = row_later _ _ _ g c.if-h-self-2.true;
      on = record { tree = i.1; after = i.2; inside = omega (arith, g, ap length i.1) };
      tree = i.1;
      after = omega (arith, g);
    }

pub returns-then-h-self-2-clause-goes : goal.returns-then-h-self-2-clause-goes
returns-then-h-self-2-clause-goes c =
    let e = ap length (c.loop-h.invariant.0 ∙ row_here _ _ _ c.in-Some.ensures c.if-h-self-2.true) in
    record { on = λ f. (tt, f, omega (arith, e)); keeps = tt; rests = λ f. tt }

pub loop-h-preserved : goal.loop-h-preserved
loop-h-preserved c =
    let i = c.loop-h.invariant in
    let deeper = lt_of_le-ne c.if-h-self.false (λ e. c.if-h-self-2.false (sym e)) in
    (i.0 ∙ row_under _ _ _ c.in-Some.ensures deeper c.skip-self.ensures, i.1, omega (arith, i.2, c.skip-self.ensures, c.in-Some.ensures))

pub returns-clause-steps : goal.returns-clause-steps
returns-clause-steps c = let e = row_cut c.loop-h.self.tree.now c.loop-h.self.depth c.loop-h.self.at c.in_default.ensures in (c.loop-h.invariant.0 ∙ e, e)
