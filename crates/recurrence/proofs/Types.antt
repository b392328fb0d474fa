-- The kinds of a rule. Assumes nothing.
use Rattle.std.specs.Prelude.{None, Option, Some}
use Prim.Native.Nat.{ℕ}
use mathlib.Core.Path.{◌≡◌, refl, subst}
use mathlib.Core.Bool.{true, false, ◌||◌}
use Rattle.definition.specs.Base.{given, within}
use Rattle.recurrence.specs.Scale.{IsMonth}
use Rattle.recurrence.specs.Meaning.{valid_month, rules}
use Rattle.recurrence.specs.Kind.{IsKind, Chosen}
use Rattle.recurrence.specs.declared.kind.Kind.{Kind}
use Rattle.laws.specs.Bools.{within_is}
use Rattle.laws.specs.Options.{never, when_is}

-- ---- a month that there is

pub valid_is : (o : Option ℕ) (m : ℕ) → valid_month o ≡ Some m → IsMonth m
valid_is None m e = never e
valid_is (Some n) m e = let w = when_is (within 1 12 n) n m e in subst IsMonth w.1 (within_is 1 12 n w.0)

-- ---- what a Type chooses

any_month : (o : Option ℕ) → (given o || true) ≡ true
any_month None = refl
any_month (Some m) = refl

kind_rules : (type : ℕ) (month : Option ℕ) (k : Kind) → IsKind type month k → rules type month ≡ true
kind_rules type month Kind.Daily e = rw e (any_month (valid_month month))
kind_rules type month (Kind.YearlyByDay m) e = rw (e.0, e.1)
kind_rules type month (Kind.YearlyByPosition m) e = rw (e.0, e.1)
kind_rules type month Kind.MonthlyByDay e = rw e (any_month (valid_month month))
kind_rules type month Kind.MonthlyByPosition e = rw e (any_month (valid_month month))
kind_rules type month Kind.Weekly e = rw e (any_month (valid_month month))

pub of_kind : (type : ℕ) (month : Option ℕ) {a k : Kind} → IsKind type month a → a ≡ k → IsKind type month k
of_kind type month h e = subst (IsKind type month) e h

module _ (type : ℕ) (month : Option ℕ) {a : Option Kind} (h : Chosen type month a) where
  chosen_kind : {k : Kind} → a ≡ Some k → IsKind type month k
  chosen_kind e = subst (Chosen type month) e h

  pub chosen_rule : {k : Kind} → a ≡ Some k → rules type month ≡ true
  chosen_rule {k} e = kind_rules type month k (chosen_kind e)

  pub chosen_none : a ≡ None → rules type month ≡ false
  chosen_none e = subst (Chosen type month) e h
