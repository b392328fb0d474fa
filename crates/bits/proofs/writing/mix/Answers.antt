use Rattle.bits.proofs.Overwriting.{mixed}
use native.Mathlib.Nat.{div-one}
use native.Mathlib.Omega.{arith}
use Rattle.bits.proofs.writing.mix.Goals as goal

pub overflow_cast-result : goal.overflow_cast-result
overflow_cast-result c =
    let a = c.args in
    let p = c.requires in
    let h = mixed a.old a.r a.k a.x p.0 p.1 p.2 in
    let f = rw div-one at c.part-low.ensures in
    rw (c.joined.ensures, c.joined-top.ensures, f) (record { fits = omega arith })
