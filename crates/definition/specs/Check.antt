-- The check's list. Document 01: activity ids distinct; parent row below its own; resource ids distinct; all other rows in range; each calendar
-- name used is some calendar's; no two expenses with equal activity and name. A row is in range when it is below the count of what it
-- points into. Assumes nothing.
use Rattle.std.specs.Prelude.{ℕ, Bool, true, ◌&&◌, not, List, [], ◌∷◌, map, length, ltb}
use Rattle.std.specs.Prelude.{Option, Some, None}
use Rattle.definition.specs.Base.{some?, every?, numbered, same}
use Rattle.definition.specs.Text.{Text}
use Rattle.definition.specs.Model.{Calendar, Activity, Link, Resource, Assignment, Expense, Model}
use Rattle.definition.specs.Resource.{same_expense}

-- no two items are the same
unfoldable pub distinct : {A : Type 0} → (A → A → Bool) → List A → Bool
distinct eq [] = true
distinct eq (x ∷ l) = not (some? (eq x) l) && distinct eq l

abbrev pub if_given : {A : Type 0} → (A → Bool) → Option A → Bool
if_given p None = true
if_given p (Some a) = p a

unfoldable pub is_calendar : Model → Text → Bool
is_calendar m n = some? (λ (c : Calendar). same c.name n) m.calendars

-- the activity of a row
unfoldable pub activity_right : Model → ℕ × Activity → Bool
activity_right m x = if_given (λ p. ltb p x.0) x.1.parent && if_given (is_calendar m) x.1.calendar

unfoldable pub link_right : Model → Link → Bool
link_right m l = ltb l.predecessor (length m.activities) && ltb l.successor (length m.activities)

unfoldable pub assignment_right : Model → Assignment → Bool
assignment_right m a = ltb a.activity (length m.activities) && ltb a.resource (length m.resources)

unfoldable pub keeps_list : Model → Bool
keeps_list m =
    distinct same (map (λ (a : Activity). a.id) m.activities) &&
    (every? (activity_right m) (numbered 0 m.activities) &&
    (distinct same (map (λ (r : Resource). r.id) m.resources) &&
    (every? (λ (r : Resource). if_given (is_calendar m) r.calendar) m.resources &&
    (every? (link_right m) m.links &&
    (every? (assignment_right m) m.assignments &&
    (every? (λ (e : Expense). ltb e.activity (length m.activities)) m.expenses &&
    distinct same_expense m.expenses))))))
