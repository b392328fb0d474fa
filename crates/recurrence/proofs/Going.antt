-- A step gives the first day to come, and leaves the rest. Assumes nothing.
use Prim.Native.Nat.{ℕ, zero, suc, ◌+◌, ◌-◌, ◌≤◌, ◌<◌, max}
use native.Mathlib.Omega.{arith}
use mathlib.Core.Path.{◌≡◌, refl, sym, ap, ◌∙◌}
use mathlib.Core.Bool.{Bool, true, false, ◌&&◌}
use mathlib.Core.List.{List, [], ◌∷◌}
use Rattle.std.specs.Prelude.{Option, Some, None, MatchOption}
use lib.ListN.{take}
use lib.Seq.{take-nil}
use lib.Dec.{leb}
use borrow.Author.Tests.{leb-true, leb-false}
use Rattle.definition.specs.Base.{◌>>=◌, when}
use Rattle.definition.specs.Date.{Date, day_number}
use Rattle.definition.specs.Recurrence.{is_rule, fits, days_of_rule}
use Rattle.date.specs.Scale.{day_count, count_of_number}
use Rattle.recurrence.specs.Scale.{day_date, scaled_by}
use Rattle.recurrence.specs.Sequence.{FirstFit, FirstFound, from_on}
use Rattle.recurrence.specs.Meaning.{as_rule, sound, meaning, days_by, coming, Comes, to_come, said, start_of, after, step_by, step_of}
use Rattle.recurrence.specs.Kind.{Chosen}
use Rattle.recurrence.specs.declared.Rule.{Rule}
use Rattle.recurrence.specs.declared.Cursor.{Cursor}
use Rattle.recurrence.specs.declared.Step.{Step}
use Rattle.recurrence.specs.declared.Step.TheVariants.{Day, Done, Skipped}
use Rattle.recurrence.specs.declared.kind.Kind.{Kind}
use Rattle.recurrence.specs.declared.scale.Scaled.{Scaled}
use Rattle.recurrence.proofs.Types.{chosen_rule, chosen_none}
use Rattle.recurrence.proofs.Runs.{from_past, first_fit, no_fit}

pub starts : (r : Rule) → to_come r (start_of r) ≡ days_by r
unfolding to_come days_by days_of_rule meaning
starts r = by (sound (scaled_by r) && is_rule (as_rule (scaled_by r)))
  where
    by : (t : Bool) → (when t (as_rule (scaled_by r)) >>= λ m. Some (take r.most (from_on (fits m) m.last (max m.from (day_count r.from.0))))) ≡ (when t (as_rule (scaled_by r)) >>= λ m. Some (days_of_rule m))
    by true = let e : max (day_count r.from.0) (day_count r.from.0) ≡ day_count r.from.0 = omega arith in rw e
    by false = refl

-- ---- what is to come decides the step

-- the step, and what it says
abbrev pub Right : Rule → Cursor → Step → Type 0
Right r c s = (s ≡ step_of r c) × (said r s ≡ to_come r c)

module _ (r : Rule) (c : Cursor) where
  skips : to_come r c ≡ None → Right r c Skipped
  unfolding step_of said
  skips e = (sym (ap (step_by c) e), sym e)

  ends : to_come r c ≡ Some [] → Right r c Done
  unfolding step_of said
  ends e = (sym (ap (step_by c) e), sym e)

  goes : (x : Date) (l : List Date) → to_come r c ≡ Some (x ∷ l) → to_come r (after c x) ≡ Some l → Right r c (Day (day_date x) (after c x))
  unfolding step_of said
  goes x l e f = (sym (ap (step_by c) e), ap (λ (o : Option (List Date)). o >>= λ k. Some (day_count (day_number x) ∷ k)) f ∙ ap (λ (d : Date). Some (d ∷ l)) (count_of_number x) ∙ sym e)

-- ---- the first of the days to come

module _ (t : Scaled) (c : Cursor) where
  pub none_left : c.left ≡ 0 → coming t c ≡ []
  none_left z = ap (λ (n : ℕ). take n (from_on (fits (as_rule t)) t.last (max t.from (day_count c.at.0)))) z

  module _ (at : ℕ) (a : at ≡ max t.from (day_count c.at.0)) where
    from_at : coming t c ≡ take c.left (from_on (fits (as_rule t)) t.last at)
    from_at = ap (λ (n : ℕ). take c.left (from_on (fits (as_rule t)) t.last n)) (sym a)

    nothing : from_on (fits (as_rule t)) t.last at ≡ [] → coming t c ≡ []
    nothing z = from_at ∙ ap (take c.left) z ∙ take-nil c.left

    pub past_last : t.last < at → coming t c ≡ []
    past_last l = nothing (from_past (fits (as_rule t)) t.last at l)

    module _ (n : c.left ≡ 0 → ⊥) where
      comes : (x : ℕ) → FirstFit (fits (as_rule t)) t.last at x → x ≤ t.last → Comes t c x
      comes x f l = record { most = l; left = omega arith; is = from_at ∙ by c.left n ∙ ap (λ (k : ℕ). x ∷ take (c.left - 1) (from_on (fits (as_rule t)) t.last k)) behind }
        where
          by : (k : ℕ) → (k ≡ 0 → ⊥) → take k (from_on (fits (as_rule t)) t.last at) ≡ x ∷ take (k - 1) (from_on (fits (as_rule t)) t.last (suc x))
          by zero g = absurd (g refl)
          by (suc k) g = let q : suc k - 1 ≡ k = omega arith in rw (first_fit (fits (as_rule t)) t.last at x f l, q)

          behind : suc x ≡ max t.from (day_count (day_number (x + 1)))
          behind = omega (arith, count_of_number (x + 1), f.on l)

      pub found : (o : Option ℕ) → FirstFound (fits (as_rule t)) t.last at o → MatchOption (o >>= λ x. when (leb x t.last) x) (coming t c ≡ []) (λ x. Comes t c x)
      found None f = nothing (no_fit (fits (as_rule t)) t.last at (suc t.last) f (omega arith))
      found (Some x) f = by (leb x t.last) refl
        where
          by : (b : Bool) → leb x t.last ≡ b → MatchOption (when b x) (coming t c ≡ []) (λ x. Comes t c x)
          by true e = comes x f (leb-true x t.last e)
          by false e = nothing (no_fit (fits (as_rule t)) t.last at x f (leb-false x t.last e))

-- ---- the code's tests

module _ (r : Rule) (c : Cursor) where
  is_one : Bool
  is_one = sound (scaled_by r) && is_rule (as_rule (scaled_by r))

  none_come : is_one ≡ false → to_come r c ≡ None
  unfolding is_one to_come meaning
  none_come q = rw q

  pub not_sound : sound (scaled_by r) ≡ false → Right r c Skipped
  unfolding is_one
  not_sound s = skips r c (none_come (rw s))

  module _ (s : sound (scaled_by r) ≡ true) {a : Option Kind} (h : Chosen r.kind r.month a) where
    pub no_kind : a ≡ None → Right r c Skipped
    unfolding is_one
    no_kind e = skips r c (none_come (rw s (chosen_none r.kind r.month h e)))

    module _ {k : Kind} (e : a ≡ Some k) where
      come : (k : Cursor) → to_come r k ≡ Some (coming (scaled_by r) k)
      unfolding to_come meaning
      come k = rw (s, chosen_rule r.kind r.month h e)

      pub done : coming (scaled_by r) c ≡ [] → Right r c Done
      done z = ends r c (come c ∙ ap Some z)

      pub day_next : (x : ℕ) → Comes (scaled_by r) c x → Right r c (Day (day_date x) (after c x))
      day_next x f = goes r c x (coming (scaled_by r) (after c x)) (come c ∙ ap Some f.is) (come (after c x))
