use mathlib.Core.Path.{sym, ap, ◌∙◌}
use Prim.Native.Nat.{ℕ, ◌≤◌}
use lib.Dec.{eqb}
use lib.ListN.{length, take}
use lib.Seq.{length-take-le}
use Rattle.text.specs.Cut.{place_within, before_take}
use native.Mathlib.Omega.{arith}
use Rattle.text.proofs.parts.before.Goals as goal

pub slice_bounds-result-end : goal.slice_bounds-result-end
slice_bounds-result-end c =
    let a = c.args in
    let k = c.place-k.result in
    let h = place_within (eqb a.b) a.s.now in
    let l : k ≤ length a.s.now = omega (arith, c.place-k.ensures) in
    sym (length-take-le k a.s.now l)

pub returns : goal.returns
returns c =
    let a = c.args in
    ap (λ (n : ℕ). take n a.s.now) c.place-k.ensures ∙ sym (before_take (eqb a.b) a.s.now)
