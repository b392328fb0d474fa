-- `nearest_whole`: a float below 0 and one that is not, and that the half is small. Assumes nothing.
use Rattle.std.specs.Prelude.{if◌then◌else◌}
use Rattle.std.proofs.Common.{◌≡◌, ℕ, zero, suc, ◌+◌, ◌*◌, ◌/◌, ◌^◌, ◌<◌, ◌≤◌, Bool, true, false, ◌&&◌, T, ℤ, pos, ◌-ℤ◌, neg_ℤ, sym, refl, ap, ◌∙◌, subst, zero-lt-suc, div-lt_iff_lt-mul, mul-pos, arith, ltb-false, ltb-true}
use lib.IntN.{+ℤ_idl}
use lib.Ieee.{Float, nan, inf, fin, up, down, neg, le, lt, eq}
use lib.Signed.{mag}
use lib.Ieee.Fits.{down_pos}
use Rattle.definition.specs.Number.{zero_float, half_away, nearest_whole, with_sign}
use Rattle.number.specs.Tests.{is_true}
use Rattle.number.specs.Floats.{le_neg, neg_below, zero_below, float-10¹⁸}
use Rattle.number.specs.Whole.{half_within, whole_within}
use Rattle.number.proofs.Nearest.{cap}
pub use Rattle.laws.specs.Floats.{bound}

abbrev low : Float
low = fin true 3814697265625 (pos 18)

pub half_is : (x : Float) → half_within x ≡ (if le zero_float x && le x cap then half_away x else 0)
unfolding half_within
half_is x = rw float-10¹⁸

pub whole_is : (x : Float) → whole_within x ≡ (if le low x && le x cap then nearest_whole x else pos 0)
unfolding whole_within neg
whole_is x = rw float-10¹⁸

-- ---- the half is small
none : (n d : ℕ) → 0 < d → n ≡ 0 → (n * 2 + d) / (d * 2) ≡ 0
none n d D h =
    let q : (n * 2 + d) / (d * 2) < 1 = (div-lt_iff_lt-mul (mul-pos D (zero-lt-suc 1))).1 (omega arith) in
    omega arith

pub half_small : (x : Float) → half_within x ≤ 1000000000000000000
half_small x = rw half_is (go (le zero_float x) (le x cap) (bound 3814697265625 18 x))
  where
    go : (a b : Bool) → (T a → T b → half_away x ≤ 1000000000000000000) → (if a && b then half_away x else 0) ≤ 1000000000000000000
    go true true h = h tt tt
    go true false h = omega arith
    go false b h = omega arith

-- ---- not below 0
either_zero : (a b : Bool) (n : ℕ) → n ≡ 0 → pos (if a then n else 0) ≡ (if b then with_sign true n else pos 0)
either_zero true true n h = rw h
either_zero true false n h = rw h
either_zero false true n h = rw h
either_zero false false n h = refl

pick_pos : (b : Bool) (n : ℕ) → pos (if b then n else 0) ≡ (if b then pos n else pos 0)
pick_pos true n = refl
pick_pos false n = refl

pub not_below_lem : (x : Float) → lt x zero_float ≡ false → pos (half_within x) ≡ whole_within x
unfolding lt le eq nearest_whole half_away
not_below_lem nan h = rw (half_is nan, whole_is nan)
not_below_lem (inf true) h = let z : ◌≡◌ {A = ℕ} 0 1 = cc in absurd (omega arith)
not_below_lem (inf false) h = rw (half_is (inf false), whole_is (inf false))
not_below_lem (fin false m e) h =
    rw (half_is (fin false m e), whole_is (fin false m e), is_true (le zero_float (fin false m e)) (zero_below (fin false m e) tt), neg_below 3814697265624 (pos 18) (fin false m e) tt)
    (pick_pos (le (fin false m e) cap) (half_away (fin false m e)))
not_below_lem (fin true m e) h =
    let k : m * up e * 1 + 0 * 1 * down e ≤ 0 = ltb-false 0 (m * up e * 1 + 0 * 1 * down e) h in
    rw (half_is (fin true m e), whole_is (fin true m e))
    (either_zero (le zero_float (fin true m e) && le (fin true m e) cap) (le low (fin true m e) && le (fin true m e) cap) (half_away (fin true m e)) (none (m * up e) (down e) (down_pos e) (omega arith)))

-- ---- below 0
minus : (b : Bool) (n : ℕ) → pos 0 -ℤ pos (if b then n else 0) ≡ (if b && true then with_sign true n else pos 0)
minus true n = +ℤ_idl (neg_ℤ (pos n))
minus false n = refl

pub is_below : (x : Float) → lt x zero_float ≡ true → pos 0 -ℤ pos (half_within (neg x)) ≡ whole_within x
unfolding lt le eq neg nearest_whole half_away
is_below nan h = let z : ◌≡◌ {A = ℕ} 0 1 = cc in absurd (omega arith)
is_below (inf true) h = rw (half_is (inf false), whole_is (inf true))
is_below (inf false) h = let z : ◌≡◌ {A = ℕ} 0 1 = cc in absurd (omega arith)
is_below (fin false m e) h =
    let k : m * up e * 1 < 0 * 1 * down e = ltb-true (m * up e * 1) (0 * 1 * down e) h in
    absurd (omega arith)
is_below (fin true m e) h =
    let x = fin false m e in
    let a : le zero_float x ≡ true = is_true (le zero_float x) (zero_below x tt) in
    let b : le low (fin true m e) ≡ le x cap = le_neg cap x in
    let d : le (fin true m e) cap ≡ true = le_neg x low ∙ neg_below 3814697265624 (pos 18) x tt in
    ap (λ (n : ℕ). pos 0 -ℤ pos n) (half_is x ∙ ap (λ (t : Bool). if t && le x cap then half_away x else 0) a)
    ∙ minus (le x cap) (half_away x)
    ∙ sym (whole_is (fin true m e)
    ∙ ap (λ (t : Bool). if t && le (fin true m e) cap then with_sign true (half_away x) else pos 0) b
    ∙ ap (λ (t : Bool). if le x cap && t then with_sign true (half_away x) else pos 0) d)

-- the opposite of a number below 2 ^ 63 fits
pub opposite_fits : (n : ℕ) → n < 2 ^ 63 → mag (pos 0 -ℤ pos n) < 2 ^ 63
opposite_fits n h = subst (λ (z : ℤ). mag z < 2 ^ 63) (sym (+ℤ_idl (neg_ℤ (pos n)))) (go n h)
  where
    go : (k : ℕ) → k < 2 ^ 63 → mag (neg_ℤ (pos k)) < 2 ^ 63
    go zero h = omega arith
    go (suc k) h = omega arith
