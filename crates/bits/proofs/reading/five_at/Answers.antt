use mathlib.Core.Path.{◌≡◌}
use native.Mathlib.Omega.{arith}
use Prim.Native.Nat.{◌+◌, ◌*◌, ◌^◌}
use lib.ListN.{get_or}
use Rattle.bits.proofs.Taking.{read_five}
use Rattle.bits.proofs.reading.five_at.Goals as goal

pub returns : goal.returns
returns c =
    let s = c.args.s.now in
    let q = c.args.q in
    let e : c.from_be_bytes.result ≡ (((get_or s q 0 * 2 ^ 8 + get_or s (q + 1) 0) * 2 ^ 8 + get_or s (q + 2) 0) * 2 ^ 8 + get_or s (q + 3) 0) * 2 ^ 8 + get_or s (q + 4) 0 = omega (arith, c.from_be_bytes.ensures) in
    rw e (read_five s q c.requires (λ i. omega (arith, c.type_inv.s i)))
