-- The total of figures that are not below 0: it is not below 0, and up to 10 ^ 9 it is within what is rounded, and its whole number is small; and the duration that it gives. Assumes nothing.
use Rattle.std.specs.Prelude.{if◌then◌else◌}
use Rattle.definition.specs.declared.Unread.TheVariants.{Absent}
use Rattle.std.specs.Prelude.{Err, Ok}
use Rattle.std.proofs.Common.{◌≡◌, ℕ, ◌+◌, ◌*◌, ◌^◌, ◌≤◌, Bool, true, false, T, pos, sym, refl, ap, ◌∙◌, subst, zero-lt-suc, arith, lt-ltb}
use lib.Ieee.{Float, nan, inf, fin, up, down, le, lt, eq}
use lib.Ieee.Fits.{down_pos}
use lib.Ieee.Order.{le_of_values}
use Rattle.definition.specs.Number.{zero_float, float, half_away, is_whole}
use Rattle.definition.specs.Duration.{total_of, duration_at, duration_from}
use Rattle.definition.specs.declared.Figures.{Figures}
use Rattle.number.specs.Floats.{float-10⁹, float-10¹⁸}
use Rattle.number.specs.Whole.{most}
use Rattle.number.specs.Duration.{not_below}
use Rattle.number.proofs.Nearest.{cap, at_most}
use Rattle.number.proofs.Rounded.{bound}
use Rattle.laws.specs.Wholes.{eq_whole}
pub use Rattle.laws.specs.Durations.{total_is, total_least}

-- ---- up to 10 ^ 9
abbrev pub billion : Float
billion = fin false 1953125 (pos 9)

weaken : (x : Float) → T (le zero_float x) → T (le x billion) → T (le x cap)
unfolding le lt eq
weaken nan z b = b
weaken (inf true) z b = tt
weaken (inf false) z b = absurd b
weaken (fin true m e) z b = rw (lt-ltb 0 (m * up e * 1 + 3814697265625 * 262144 * down e) (omega (arith, down_pos e))) tt
weaken (fin false m e) z b =
    let h : m * up e ≤ 1953125 * 512 * down e = at_most 1953125 9 false m e z b in
    le_of_values (fin false m e) cap (m * up e) (down e) (10 ^ 18) 1 (down_pos e) (zero-lt-suc 0) (refl, refl) (refl, refl) (omega arith)

from_is : (f : Figures) → duration_from f ≡ (if le (total_of f) billion then Ok (duration_at (total_of f)) else (Err Absent))
unfolding duration_from
from_is f = ap (λ (x : Float). if le (total_of f) x then Ok (duration_at (total_of f)) else (Err Absent)) float-10⁹

module _ (f : Figures) (least : T (not_below f)) where
  pub within : le (total_of f) billion ≡ true → T (le (total_of f) most)
  within t = subst (λ (x : Float). T (le (total_of f) x)) (sym float-10¹⁸) (weaken (total_of f) (total_least f least) (subst T (sym t) tt))

  pub minutes_small : le (total_of f) billion ≡ true → half_away (total_of f) ≤ 1000000000
  minutes_small t = bound 1953125 9 (total_of f) (total_least f least) (subst T (sym t) tt)

  pub duration_is : le (total_of f) billion ≡ true → {n : ℕ} → n ≡ half_away (total_of f) → {w : Bool} → w ≡ eq (total_of f) (float n)
      → Ok (record { minutes = n; whole = w }) ≡ duration_from f
  duration_is t {n} i {w} j =
      let k : w ≡ is_whole (total_of f) = j ∙ eq_whole (total_of f) (total_least f least) n i (omega (arith, i, minutes_small t)) in
      (λ r. Ok (record { minutes = i r; whole = k r }))
      ∙ sym (from_is f ∙ ap (λ (t : Bool). if t then Ok (duration_at (total_of f)) else (Err Absent)) t)

pub duration_none : (f : Figures) → le (total_of f) billion ≡ false → duration_from f ≡ (Err Absent)
duration_none f t = from_is f ∙ ap (λ (t : Bool). if t then Ok (duration_at (total_of f)) else (Err Absent)) t
