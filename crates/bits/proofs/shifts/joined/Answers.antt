use Prim.Native.Nat.{◌*◌, ◌^◌, ◌<◌}
use native.Mathlib.Omega.{arith}
use native.Mathlib.Nat.{mod-eq_of_lt}
use lib.Bits.{or_shifted}
use Rattle.bits.proofs.shifts.joined.Goals as goal

pub returns : goal.returns
returns c =
    let h : c.args.hi * 2 ^ c.args.k < 2 ^ 64 = omega arith in
    rw (mod-eq_of_lt h) (or_shifted c.args.hi c.args.k c.args.lo c.requires.1)
