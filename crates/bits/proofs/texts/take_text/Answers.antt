use native.Mathlib.Omega.{arith}
use Rattle.bits.specs.Reads.{read_field, read_whole, skip_pad, pad_whole}
use Rattle.bits.proofs.Spanning.{found}
use Rattle.bits.proofs.texts.take_text.Goals as goal

pub returns : goal.returns
returns c =
    let a = c.args in
    found (λ i. omega (arith, c.type_inv.s i)) (read_whole (read_field a.s.now a.p 32 c.take_u32-c.ensures) (skip_pad a.s.now c.take_u32-c.result.next c.take_pad-b.ensures))
    (pad_whole a.s.now c.take_u32-c.result.next c.take_pad-b.ensures) c.bytes_at.ensures
