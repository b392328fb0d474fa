-- The numbers of a run that pass a test, one after the other. Assumes nothing.
use Prim.Native.Nat.{ℕ, zero, suc, ◌+◌, ◌-◌, ◌≤◌, ◌<◌}
use native.Mathlib.Omega.{arith}
use native.Mathlib.Decide.{dec_lt}
use mathlib.Core.Path.{◌≡◌, refl, sym, ◌∙◌}
use mathlib.Core.Bool.{Bool, true, false}
use mathlib.Core.List.{[], ◌∷◌}
use Rattle.definition.specs.Base.{keep, count}
use Rattle.recurrence.specs.Sequence.{from_on, FirstFit}

module _ (p : ℕ → Bool) where
  pub keep_yes : (a n : ℕ) → p a ≡ true → keep p (count a (suc n)) ≡ a ∷ keep p (count (suc a) n)
  unfolding keep count
  keep_yes a n e = rw e

  pub keep_no : (a n : ℕ) → p a ≡ false → keep p (count a (suc n)) ≡ keep p (count (suc a) n)
  unfolding keep count
  keep_no a n e = rw e

  pub keep_none : (a : ℕ) → keep p (count a 0) ≡ []
  unfolding keep count
  keep_none a = refl

  module _ (last : ℕ) where
    pub from_past : (at : ℕ) → last < at → from_on p last at ≡ []
    from_past at h = let e : suc last - at ≡ 0 = omega arith in rw (e, keep_none)

    from_yes : (at : ℕ) → at ≤ last → p at ≡ true → from_on p last at ≡ at ∷ from_on p last (suc at)
    from_yes at h y = let e : suc last - at ≡ suc (suc last - suc at) = omega arith in rw e (keep_yes at _ y)

    from_no : (at : ℕ) → at ≤ last → p at ≡ false → from_on p last at ≡ from_on p last (suc at)
    from_no at h y = let e : suc last - at ≡ suc (suc last - suc at) = omega arith in rw e (keep_no at _ y)

    pass : (k at : ℕ) → ((d : ℕ) → at ≤ d → d < at + k → d ≤ last → p d ≡ false) → from_on p last at ≡ from_on p last (at + k)
    pass zero at h = let e : at + 0 ≡ at = omega arith in rw e
    pass (suc k) at h =
        by (dec_lt last at) (pass k (suc at) (λ d a b. h d (omega arith) (omega arith)))
      where
        by : Dec (last < at) → from_on p last (suc at) ≡ from_on p last (suc at + k) → from_on p last at ≡ from_on p last (at + suc k)
        by (yes l) more = from_past at l ∙ sym (from_past (at + suc k) (omega arith))
        by (no g) more =
            let e : at + suc k ≡ suc at + k = omega arith in
            rw e (from_no at (omega arith) (h at (omega arith) (omega arith) (omega arith)) ∙ more)

    pub first_fit : (at x : ℕ) → FirstFit p last at x → x ≤ last → from_on p last at ≡ x ∷ from_on p last (suc x)
    first_fit at x f h =
        let o = f.on h in
        let e : at + (x - at) ≡ x = omega arith in
        pass (x - at) at (λ d a b. f.before d a (omega arith)) ∙ rw e (from_yes x h (f.hit h))

    pub no_fit : (at x : ℕ) → FirstFit p last at x → last < x → from_on p last at ≡ []
    no_fit at x f h =
        pass (suc last - at) at (λ d a b n. f.before d a (omega arith) n) ∙ from_past (at + (suc last - at)) (omega arith)

-- equal tests
pub fit_by : (p q : ℕ → Bool) (last at x : ℕ) → ((d : ℕ) → q d ≡ p d) → FirstFit p last at x → FirstFit q last at x
fit_by p q last at x same f =
    record { on = f.on; before = λ d a l n. same d ∙ f.before d a l n; hit = λ h. same x ∙ f.hit h }
