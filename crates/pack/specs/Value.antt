-- What the values that are written mean. Assumes nothing.
use Rattle.std.specs.Prelude.{ℕ, ◌≡◌, refl, ℤ}
use Rattle.definition.specs.declared.Date.{Date as DayNumber}
use Rattle.pack.specs.declared.value.LagFields.{LagFields}
use Rattle.tasks.specs.declared.task.Constraint.{Constraint}
use Rattle.std.proofs.Common.{ap, ◌∙◌}
use Rattle.std.specs.Prelude.{Option, Some, None}
use Rattle.definition.specs.Base.{◌or◌, ◌>>=◌}
use Rattle.definition.specs.Date.{Date, from_days}
pub use Rattle.laws.specs.Stars.{starred_by}
use Rattle.laws.specs.Fields.{InYears, days_day}
use Rattle.laws.specs.Formats.{IfGiven}
use Rattle.definition.specs.Text.{Text}
use Rattle.definition.specs.Answer.{date_meaning, day_number_of}
use Rattle.tasks.specs.declared.link.Lag.{Lag}
use Rattle.tasks.specs.Link.{lag_means}
use Rattle.pack.specs.declared.stars.Starred.{Starred}
use Rattle.tasks.specs.Task.{code_and_day, constraint_means, day_numbered}

-- what a value means, where there is one
abbrev pub given_by : {A B : Type 0} → (A → B) → Option A → Option B
given_by f o = o >>= λ x. Some (f x)

-- a text with so many `*` behind it
abbrev pub starred : Starred → Text
starred x = starred_by x.text.now x.stars

-- a lag's days and minutes, and its kind
abbrev pub lag_fields : LagFields → ℤ × (Option ℤ × (ℕ × Option ℤ))
lag_fields l = (l.days, (l.minutes, (l.kind, l.share)))

abbrev pub lag_values : Lag → ℤ × (Option ℤ × (ℕ × Option ℤ))
lag_values l = let m = lag_means l in (m.days, (m.minutes, m.kind))

-- the date of a day number; 0 outside the years
abbrev pub date_by : ℤ → Date
date_by z = from_days z or 0

-- a date that may be missing
abbrev pub date_given : Option DayNumber → Option Date
date_given d = date_meaning d >>= λ z. Some (date_by z)

pub date_none : date_given None ≡ None
unfolding date_meaning
date_none = refl

pub date_some : (d : DayNumber) → date_given (Some d) ≡ Some (date_by d.0)
unfolding date_meaning
date_some d = refl

-- a constraint that may be missing: its code, and its date unless the code is 1
abbrev pub constraint_given : Option Constraint → Option (ℕ × Option Date)
constraint_given c = constraint_means c >>= λ x. Some (x.0, x.1 >>= λ z. Some (date_by z))

-- that of one
abbrev pub constraint_by : Constraint → ℕ × Option Date
constraint_by c = let x = code_and_day c in (x.0, x.1 >>= λ z. Some (date_by z))

pub constraint_none : constraint_given None ≡ None
unfolding constraint_means
constraint_none = refl

pub constraint_some : (c : Constraint) → constraint_given (Some c) ≡ Some (constraint_by c)
unfolding constraint_means
constraint_some c = refl

-- a name that may be missing: the text with so many `*` behind it
unfoldable pub name_meaning : Text → Option ℕ → Option Text
name_meaning s (Some stars) = Some (starred_by s stars)
name_meaning s None = None

-- ---- what was read is written as it is meant: its dates stand in the years

date_back : (o : Option Date) → (day_number_of o >>= from_days) ≡ o → (day_number_of o >>= λ z. Some (date_by z)) ≡ o
unfolding day_number_of
date_back None h = refl
date_back (Some d) h = rw h

-- a date
pub date_read : (a : Option DayNumber) (o : Option Date) → date_meaning a ≡ day_number_of o → (day_number_of o >>= from_days) ≡ o → date_given a ≡ o
date_read a o e h = ap (λ (o : Option ℤ). o >>= λ z. Some (date_by z)) e ∙ date_back o h

-- where it stands in the years
pub years_back : (o : Option Date) → IfGiven InYears o → (day_number_of o >>= from_days) ≡ o
unfolding day_number_of
years_back None h = refl
years_back (Some d) h = days_day d h

-- a constraint
pub constraint_read : (a : Option Constraint) (o : Option (ℕ × Option Date)) → constraint_means a ≡ day_numbered o → IfGiven (λ (x : ℕ × Option Date). IfGiven InYears x.1) o → constraint_given a ≡ o
unfolding day_numbered
constraint_read a o e h = ap (λ (o : Option (ℕ × Option ℤ)). o >>= λ x. Some (x.0, x.1 >>= λ z. Some (date_by z))) e ∙ back o h
  where
    back : (o : Option (ℕ × Option Date)) → IfGiven (λ (x : ℕ × Option Date). IfGiven InYears x.1) o → (day_numbered o >>= λ x. Some (x.0, x.1 >>= λ z. Some (date_by z))) ≡ o
    back None h = refl
    back (Some (k, d)) h = ap (λ (d : Option Date). Some (k, d)) (date_back d (years_back d h))
