use Rattle.std.proofs.Common.{rules}
use Rattle.std.proofs.lemmas.Slice.{overwrites}
use native.Mathlib.Omega.{arith}
use Rattle.bits.proofs.Rotating.{turned, turned_thrice}
use Rattle.bits.proofs.rotation.rotate_bytes.Goals as goal

pub returns : goal.returns
returns c =
    let a = c.args in
    (search (rules, overwrites), turned_thrice a.a a.m a.e a.out.now (omega arith) (omega arith) (omega arith) (turned _ _ _ c.reverse.ensures.after) (turned _ _ _ c.reverse-2.ensures.after) (turned _ _ _ c.reverse-3.ensures.after))
