-- Rules with one candidate a year or a month: the years or months are passed one after the other. Assumes nothing.
use Prim.Native.Nat.{ℕ, suc, ◌≤◌, ◌<◌}
use native.Mathlib.Omega.{arith}
use native.Mathlib.Decide.{dec_lt}
use mathlib.Core.Path.{◌≡◌, refl, sym, ◌∙◌}
use mathlib.Core.Bool.{Bool, true, false, ◌&&◌, and-false}
use Rattle.std.specs.Prelude.{Option, Some, None}
use borrow.Author.Tests.{eq-eqb, ne_eqb}
use Rattle.laws.specs.Options.{Some-injective, never}
use Rattle.definition.specs.Recurrence.{is_date}
use Rattle.recurrence.specs.Sequence.{FirstFit}

-- each date lies in a unit, later ones in later units; a date fits where its unit counts and it is the unit's candidate
pub record Units (p : ℕ → Bool) (unit : ℕ → ℕ) (counts : ℕ → Bool) (candidate : ℕ → Option ℕ) : Type 0 where
  pub rises : (d e : ℕ) → d ≤ e → unit d ≤ unit e
  pub lies : (k x : ℕ) → candidate k ≡ Some x → unit x ≡ k
  pub fitting : (d : ℕ) → p d ≡ (counts (unit d) && is_date (candidate (unit d)) d)

-- no date from `at` on fits that lies in a unit before k
abbrev pub Passed : (ℕ → Bool) → (ℕ → ℕ) → ℕ → ℕ → Type 0
Passed p unit at k = (d : ℕ) → at ≤ d → unit d < k → p d ≡ false

module _ (p : ℕ → Bool) (unit : ℕ → ℕ) (counts : ℕ → Bool) (candidate : ℕ → Option ℕ) (u : Units p unit counts candidate) (at : ℕ) where
  pub pass_none : Passed p unit at (unit at)
  pass_none d a h = absurd (omega (arith, u.rises at d a))

  -- units that do not count
  pub pass_over : (k j : ℕ) → Passed p unit at k → ((i : ℕ) → k ≤ i → i < j → counts i ≡ false) → Passed p unit at j
  pass_over k j before none-counts d a h = by (dec_lt (unit d) k)
    where
      by : Dec (unit d < k) → p d ≡ false
      by (yes l) = before d a l
      by (no g) = u.fitting d ∙ rw (none-counts (unit d) (omega arith) h)

  -- a unit with no candidate from `at` on, and one whose candidate is the answer
  module _ (k : ℕ) (o : Option ℕ) (before : Passed p unit at k) (is : o ≡ candidate k) where
    other : (d : ℕ) (c : Option ℕ) → ((x : ℕ) → c ≡ Some x → x ≡ d → ⊥) → is_date c d ≡ false
    other d None n = refl
    other d (Some x) n = ne_eqb x d (n x refl)

    here : (d : ℕ) → unit d ≡ k → ((x : ℕ) → o ≡ Some x → x ≡ d → ⊥) → p d ≡ false
    here d w n = u.fitting d ∙ rw (w, ← is, other d o n) (and-false (counts k))

    until : (d : ℕ) → at ≤ d → unit d < suc k → ((x : ℕ) → o ≡ Some x → x ≡ d → ⊥) → p d ≡ false
    until d a h n = by (dec_lt (unit d) k)
      where
        by : Dec (unit d < k) → p d ≡ false
        by (yes l) = before d a l
        by (no g) = here d (omega arith) n

    pub pass_none_there : o ≡ None → Passed p unit at (suc k)
    pass_none_there e d a h = until d a h (λ x f q. never (sym e ∙ f))

    pub pass_unit : (x : ℕ) → o ≡ Some x → x < at → Passed p unit at (suc k)
    pass_unit x e l d a h = until d a h (λ y f q. omega (arith, Some-injective y x (sym f ∙ e)))

    pub fit_unit : (x last : ℕ) → o ≡ Some x → at ≤ x → counts k ≡ true → FirstFit p last at x
    fit_unit x last e on does =
        let w : unit x ≡ k = u.lies k x (sym is ∙ e) in
        record {
          on = λ h. on;
          before = λ d a l n. until d a (omega (arith, u.rises d x (omega arith))) (λ y f r. omega (arith, Some-injective y x (sym f ∙ e)));
          hit = λ h. u.fitting x ∙ rw (w, does, ← is, e) (eq-eqb x x refl);
        }

  -- no unit that counts is left
  pub no_unit : (k last : ℕ) → Passed p unit at k → ((i : ℕ) → k ≤ i → i ≤ unit last → counts i ≡ false) → FirstFit p last at (suc last)
  no_unit k last before none-counts =
      record {
        on = λ h. absurd (omega arith);
        before = λ d a l n. pass_over k (suc (unit last)) before (λ i low high. none-counts i low (omega arith)) d a (omega (arith, u.rises d last n));
        hit = λ h. absurd (omega arith);
      }
