-- The 32 bits behind the first ones of the five bytes.
use mathlib.Core.Path.{◌≡◌}
use Prim.Native.Nat.{◌+◌, ◌-◌, ◌*◌}
use native.Mathlib.Omega.{arith}
use lib.ListN.{length}
use Rattle.bits.specs.Places.{at, Fits, fits_room}
use Rattle.bits.specs.Window.{Read}
use Rattle.bits.proofs.Taking.{read_part}
use Rattle.bits.proofs.Taking.{take_done}
use Rattle.bits.proofs.reading.take_five.Goals as goal

pub returns : goal.returns
returns c =
    let a = c.args in
    let s = a.s.now in
    let p = a.p in
    let m = 8 - p.bit in
    let f : Fits (length s) p 32 = record { bit = omega arith; ends = omega arith } in
    let e : p.bit + (32 + m) ≡ 40 = omega arith in
    let g : Read s (8 * p.byte) (p.bit + (32 + m)) c.five_at.result = rw e c.five_at.ensures in
    let v : Read s (at p) 32 c.part-value.result = rw c.part-value.ensures (read_part s (8 * p.byte) p.bit 32 m _ g) in
    take_done s p 32 (fits_room f) (omega arith) (omega arith) v
