-- What the answers stand for that several crates share. Assumes nothing.
use Rattle.std.specs.Prelude.{List, [], ◌∷◌, ℕ, ℤ, codes}
use Rattle.definition.specs.declared.Date.{Date as DayNumber}
use Rattle.definition.specs.declared.Period.{Period as PeriodAt}
use Rattle.definition.specs.declared.PerKind.{PerKind}
use Rattle.std.specs.Prelude.{Option, Some, None, Result, Ok, Err}
use Rattle.definition.specs.declared.Refusal.{Refusal}
use Rattle.definition.specs.declared.Refusal.TheVariants as refusal
use Rattle.definition.specs.Base.{◌>>=◌}
use Rattle.definition.specs.Date.{Date, day_number}
use Rattle.definition.specs.Format.{Period}

-- a date by document 01's number
unfoldable pub date_meaning : Option DayNumber → Option ℤ
date_meaning (Some d) = Some d.0
date_meaning None = None

unfoldable pub day_number_of : Option Date → Option ℤ
day_number_of d = d >>= λ d. Some (day_number d)

-- a period as the definitions have it
unfoldable pub period_meaning : Option PeriodAt → Option Period
period_meaning (Some t) = Some (t.from, t.to)
period_meaning None = None

-- the values for the six kinds one by one
abbrev pub each_of : {T : Type 0} → PerKind T → List T
each_of n = n.calendars ∷ n.activities ∷ n.links ∷ n.resources ∷ n.assignments ∷ n.expenses ∷ []

-- document 01's number of a refusal
abbrev pub refusal_number : Refusal → ℕ
refusal_number refusal.Layout = 1
refusal_number refusal.Utf8 = 2
refusal_number refusal.TooMany = 3
refusal_number refusal.NoProject = 4
refusal_number refusal.TooLong = 5
refusal_number refusal.NoModel = 6
refusal_number refusal.ListBroken = 7
refusal_number refusal.Outside = 8
refusal_number refusal.NoRoom = 9

-- what is printed of it
abbrev pub refusal_text : Refusal → List ℕ
refusal_text refusal.Layout = codes "the tree breaks the layout"
refusal_text refusal.Utf8 = codes "a name or a text is not UTF-8"
refusal_text refusal.TooMany = codes "the tree has over 5,000,000 elements"
refusal_text refusal.NoProject = codes "the root is not a Project"
refusal_text refusal.TooLong = codes "a number is too long"
refusal_text refusal.NoModel = codes "the model does not decode"
refusal_text refusal.ListBroken = codes "the model does not keep the list of the check"
refusal_text refusal.Outside = codes "a value is asked for outside its range"
refusal_text refusal.NoRoom = codes "the result is longer than its buffer"

-- the number that a call returns, 0 where there is a result; and how long that is
abbrev pub answer_number : {A : Type 0} → Result A Refusal → ℕ
answer_number (Ok x) = 0
answer_number (Err e) = refusal_number e

abbrev pub answer_length : Result ℕ Refusal → ℕ
answer_length (Ok n) = n
answer_length (Err e) = 0
