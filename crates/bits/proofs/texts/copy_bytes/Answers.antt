use mathlib.Core.Path.{refl, ap, ◌∙◌}
use lib.ListN.{length-set}
use lib.Seq.{paste}
use Rattle.std.proofs.lemmas.List.Edits.{paste_none, paste_more}
use Rattle.bits.proofs.Bytes.{copy_short, copy_done}
use native.Mathlib.Omega.{arith}
use Rattle.bits.proofs.texts.copy_bytes.Goals as goal

pub returns-then-out-at : goal.returns-then-out-at
returns-then-out-at c =
    let a = c.args in
    copy_short a.out.now a.s.now a.p (λ k. omega arith)

pub loop-i-init : goal.loop-i-init
loop-i-init c =
    let a = c.args in
    (refl, paste_none a.out.now a.p.byte a.s.now)

pub loop-i-preserved : goal.loop-i-preserved
loop-i-preserved c =
    let l = c.loop-i in
    let a = c.args in
    (simp length-set l.invariant.0, rw l.invariant.1 (paste_more a.out.now a.p.byte a.s.now l.i 0 (omega arith) (omega arith)))

pub returns : goal.returns
returns c =
    let a = c.args in
    copy_done a.out.now a.s.now _ a.p c.requires (omega arith) (c.loop-i.invariant.1 ∙ ap (paste a.out.now a.p.byte a.s.now) (omega arith))
