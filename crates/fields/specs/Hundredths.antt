-- Hundredths of a number that is kept, where it lies from -10 ^ 13 to 10 ^ 13; the size of a number with a sign. Assumes nothing.
use Rattle.std.specs.Prelude.{ℕ, zero, suc, ◌^◌, ◌≡◌, refl, Bool, true, false, T, nat_abs, Float}
use Rattle.std.proofs.Common.{ap, sym, ◌∙◌, true≢false}
use Rattle.std.specs.Prelude.{Option, Some, None}
use Rattle.std.specs.Option.{is_some, IfSome}
use Rattle.std.specs.Float.{binary64}
use Rattle.std.specs.Float.Ieee.{neg, le, mul}
use Rattle.definition.specs.Base.{when}
use Rattle.definition.specs.Number.{float, hundredths, with_sign}
use Rattle.number.specs.Whole.{whole_within, hundredths_same}
pub use Rattle.laws.specs.Floats.{float_0, above_0}

abbrev Bounded : Float → Type 0
Bounded x = T (le (neg (float (10 ^ 13))) x) × T (le x (float (10 ^ 13)))

module _ (x : Float) where
  -- what is kept by the code's test is kept by the definition's
  pub hundredths_kept : {t u : Bool} → t ≡ u → (T u → Bounded x) → when t (whole_within (mul binary64 x (float 100))) ≡ when u (hundredths x)
  hundredths_kept {t} {u} e h = ap (λ (t : Bool). when t (whole_within (mul binary64 x (float 100)))) e ∙ by u h
    where
      by : (u : Bool) → (T u → Bounded x) → when u (whole_within (mul binary64 x (float 100))) ≡ when u (hundredths x)
      by true h = let b = h tt in ap Some (hundredths_same x b.0 b.1)
      by false h = refl

-- a value that the library's `then` makes where a test holds
pub then_when : {A : Type 0} (t : Bool) (x : A) (r : Option A) {φ : A → Type 0} → is_some r ≡ t → IfSome r φ → (t ≡ true → (y : A) → φ y → y ≡ x) → r ≡ when t x
then_when true x (Some y) e h k = ap Some (k refl y h)
then_when false x None e h k = refl
then_when true x None e h k = absurd (true≢false (sym e))
then_when false x (Some y) e h k = absurd (true≢false e)

pub size_sign : (b : Bool) (n : ℕ) → nat_abs (with_sign b n) ≡ n
size_sign true zero = refl
size_sign true (suc n) = refl
size_sign false n = refl
