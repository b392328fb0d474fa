-- What fits a rule, kind by kind, and what the searches for the first such day may rest on. Assumes nothing: these are definitions.
use Rattle.std.specs.Prelude.{ℕ, ◌+◌, ◌-◌, ◌*◌, ◌/◌, ◌%◌, ◌^◌, ◌≤◌, ◌<◌, ◌≡◌, Bool, true, false, ◌&&◌, List, leb, eqb, pos}
use Rattle.std.specs.Prelude.{None, Some}
use Rattle.std.specs.Prelude.{Option}
use Rattle.definition.specs.Base.{find_last}
use Rattle.definition.specs.Date.{Date, year_of, sunday_first, first_date, last_date}
use Rattle.definition.specs.Recurrence.{most_days, century, every_nth, is_date, on_weekday, in_nth_week, nth_in_month}
use Rattle.recurrence.specs.Scale.{month_at, day_in}
use Rattle.recurrence.specs.Meaning.{as_rule, valid_month, rules}
use Rattle.recurrence.specs.declared.kind.Kind.{Kind}
use Rattle.recurrence.specs.declared.scale.Scaled.{Scaled}

abbrev pub last_of : List ℕ → Option ℕ
last_of l = find_last (λ d. true) l

-- the item at a position, or the day
unfoldable pub candidate : Bool → ℕ → ℕ → ℕ → ℕ → ℕ → Option Date
candidate true day item position y m = nth_in_month y m (pos item) (pos position)
candidate false day item position y m = day_in y m day

-- q steps are the fewest that reach n
pub record UpTo (n step q : ℕ) : Type 0 where
  pub reach : n ≤ q * step
  pub short : q * step < n + step
  pub between : (m : ℕ) → n ≤ m → m < q * step → m % step ≡ 0 → ⊥

-- what the searches may take for granted
pub record Ready (r : Scaled) (at : ℕ) : Type 0 where
  pub first : first_date ≤ r.from
  pub from : r.from ≤ at
  pub until : at ≤ r.last
  pub last : r.last ≤ last_date
  pub step : 1 ≤ r.rule.period
  pub most : r.rule.period ≤ 1000

abbrev pub daily_fits : Scaled → Date → Bool
daily_fits r d = every_nth r.rule.period most_days (d - r.from)

-- a rule's candidate of a month of a year: by the item at its position, or by the day
abbrev pub candidate_of : Bool → Scaled → ℕ → ℕ → Option Date
candidate_of b r y m = candidate b r.rule.day r.rule.item r.rule.position y m

abbrev pub counts_year : Scaled → ℕ → Bool
counts_year r y = leb y (year_of r.from + 200)

abbrev pub yearly_fits : Bool → Scaled → ℕ → Date → Bool
yearly_fits b r m d = counts_year r (year_of d) && is_date (candidate_of b r (year_of d) m) d

abbrev pub counts_month : Scaled → ℕ → Bool
counts_month r k = every_nth r.rule.period 2400 (k - month_at r.from)

abbrev pub candidate_at : Bool → Scaled → ℕ → Option Date
candidate_at b r k = candidate_of b r (k / 12) (k % 12 + 1)

abbrev pub monthly_fits : Bool → Scaled → Date → Bool
monthly_fits b r d = counts_month r (month_at d) && is_date (candidate_at b r (month_at d)) d

abbrev pub on_mask : ℕ → Date → Bool
on_mask weekdays d = eqb (weekdays / 2 ^ sunday_first d % 2) 1

abbrev pub weekly_fits : Scaled → Date → Bool
weekly_fits r d = on_weekday (as_rule r) d && (in_nth_week (as_rule r) d && leb d (r.from + century))

-- g is the first day from d on in a week that counts, weeks being counted from the day w0 on
pub record WeekDay (w0 step d g : ℕ) : Type 0 where
  pub on : d ≤ g
  pub between : (e : ℕ) → d ≤ e → e < g → eqb ((e - w0) / 7 % step) 0 ≡ false
  pub here : eqb ((g - w0) / 7 % step) 0 ≡ true

-- the Type that a kind is chosen by; the yearly ones have their month
abbrev pub IsKind : ℕ → Option ℕ → Kind → Type 0
IsKind type month Kind.Daily = type ≡ 1
IsKind type month (Kind.YearlyByDay m) = (type ≡ 2) × (valid_month month ≡ Some m)
IsKind type month (Kind.YearlyByPosition m) = (type ≡ 3) × (valid_month month ≡ Some m)
IsKind type month Kind.MonthlyByDay = type ≡ 4
IsKind type month Kind.MonthlyByPosition = type ≡ 5
IsKind type month Kind.Weekly = type ≡ 6

-- what a Type and a Month choose
abbrev pub Chosen : ℕ → Option ℕ → Option Kind → Type 0
Chosen type month (Some k) = IsKind type month k
Chosen type month None = rules type month ≡ false
