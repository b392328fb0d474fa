-- What a `Rule`, a `Cursor` and a `Step` mean. Assumes nothing: these are definitions.
use Rattle.std.specs.Prelude.{ℕ, ◌+◌, ◌-◌, ◌≤◌, ◌≡◌, max, Bool, ◌&&◌, ◌||◌, not, List, [], ◌∷◌, take, leb, pos}
use Rattle.std.specs.Prelude.{Option, Some, None}
use Rattle.definition.specs.Base.{◌>>=◌, when, given, within}
use Rattle.definition.specs.Date.{Date, first_date, last_date}
use Rattle.definition.specs.Recurrence as D
use Rattle.definition.specs.Recurrence.{is_rule, fits, days_of_rule}
use Rattle.date.specs.Scale.{day_count}
use Rattle.recurrence.specs.Scale.{day_date, scaled_by}
use Rattle.recurrence.specs.Sequence.{from_on}
use Rattle.recurrence.specs.declared.Rule.{Rule}
use Rattle.recurrence.specs.declared.Cursor.{Cursor}
use Rattle.recurrence.specs.declared.Step.{Step}
use Rattle.recurrence.specs.declared.Step.TheVariants.{Day, Done, Skipped}
use Rattle.recurrence.specs.declared.scale.Scaled.{Scaled}

-- month 0 and any past 12 are no month
abbrev pub valid_month : Option ℕ → Option ℕ
valid_month o = o >>= λ m. when (within 1 12 m) m

abbrev pub as_rule : Scaled → D.Rule
as_rule r =
    record {
      type = r.rule.kind;
      from = r.from;
      last = r.last;
      most = r.rule.most;
      period = r.rule.period;
      month = valid_month r.rule.month;
      day = pos r.rule.day;
      item = pos r.rule.item;
      position = pos r.rule.position;
      weekdays = pos r.rule.weekdays;
    }

-- its dates are such, and its Period is held
abbrev pub sound : Scaled → Bool
sound r = within first_date last_date r.from && (leb r.last last_date && within 1 1000 r.rule.period)

-- definition's is_rule, by the Type and the Month
abbrev pub rules : ℕ → Option ℕ → Bool
rules kind month = within 1 6 kind && (given (valid_month month) || not (within 2 3 kind))

unfoldable pub meaning : Rule → Option D.Rule
meaning r = when (sound (scaled_by r) && is_rule (as_rule (scaled_by r))) (as_rule (scaled_by r))

-- all days of a rule; none: skipped
unfoldable pub days_by : Rule → Option (List Date)
days_by r = meaning r >>= λ m. Some (days_of_rule m)

-- the days of a rule that a cursor leaves to come
abbrev pub left_by : D.Rule → Cursor → List Date
left_by m c = take c.left (from_on (fits m) m.last (max m.from (day_count c.at.0)))

unfoldable pub to_come : Rule → Cursor → Option (List Date)
to_come r c = meaning r >>= λ m. Some (left_by m c)

abbrev pub start_of : Rule → Cursor
start_of r = record { at = r.from; left = r.most }

-- behind a day, one less may come
abbrev pub after : Cursor → Date → Cursor
after c x = record { at = day_date (x + 1); left = c.left - 1 }

-- the days that a cursor leaves to come, of a rule with its days counted
abbrev pub coming : Scaled → Cursor → List Date
coming r c = left_by (as_rule r) c

-- x is the first of them, and the cursor behind it leaves the rest
pub record Comes (r : Scaled) (c : Cursor) (x : Date) : Type 0 where
  pub most : x ≤ r.last
  pub left : 1 ≤ c.left
  pub is : coming r c ≡ x ∷ coming r (after c x)

-- the first of the days to come, and the cursor behind it
abbrev pub step_by : Cursor → Option (List Date) → Step
step_by c None = Skipped
step_by c (Some []) = Done
step_by c (Some (x ∷ l)) = Day (day_date x) (after c x)

unfoldable pub step_of : Rule → Cursor → Step
step_of r c = step_by c (to_come r c)

-- a step is the next of them, with the cursor that leaves the rest to come
unfoldable pub said : Rule → Step → Option (List Date)
said r (Day d c) = to_come r c >>= λ l. Some (day_count d.0 ∷ l)
said r Done = Some []
said r Skipped = None
