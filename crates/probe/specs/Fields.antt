-- What the numbers that a probe hands over stand for. Assumes nothing: these are definitions.
use Rattle.std.specs.Prelude.{if◌then◌else◌, ℕ, min, ◌≡◌, eqb}
use Rattle.recurrence.specs.declared.Range.{Range}
use Rattle.std.specs.Prelude.{None, Option, Some}
use Rattle.definition.specs.Base.{◌or◌}
use Rattle.definition.specs.declared.Date.{Date}
use Rattle.date.specs.Scale.{day_count}
use Rattle.recurrence.specs.Scale.{day_date}
use Rattle.recurrence.specs.declared.Rule.{Rule}
use Rattle.recurrence.specs.declared.Cursor.{Cursor}
use Rattle.recurrence.specs.declared.Step.{Step}
use Rattle.recurrence.specs.declared.Step.TheVariants.{Day, Done, Skipped}
use Rattle.probe.specs.declared.days.Fields.{Fields}
use Rattle.probe.specs.declared.days.Run.{Run}

-- ---- in

abbrev pub day_at : ℕ → Date
day_at n = day_date (min n 7304850)

abbrev pub month_at : ℕ → Option ℕ
month_at n = if eqb n 13 then None else Some n

abbrev pub rule : ℕ → ℕ → ℕ → ℕ → ℕ → ℕ → ℕ → ℕ → ℕ → ℕ → Rule
rule k f l m p o d i q w =
    record { kind = k; from = day_at f; last = day_at l; most = m; period = p; month = month_at o; day = d; item = i; position = q; weekdays = w }

abbrev pub cursor : ℕ → ℕ → Cursor
cursor a l = record { at = day_at a; left = l }

-- ---- out

abbrev pub fields_of : Option Rule → Fields
fields_of (Some r) =
    record {
      kind = r.kind;
      from = day_count r.from.0;
      last = day_count r.last.0;
      most = r.most;
      period = r.period;
      month = r.month or 13;
      day = r.day;
      item = r.item;
      position = r.position;
      weekdays = r.weekdays;
    }
fields_of None =
    record { kind = 0; from = 0; last = 0; most = 0; period = 0; month = 0; day = 0; item = 0; position = 0; weekdays = 0 }

-- a step by its answer and what it leaves: 0 a day and the cursor behind it, 1 no day, 2 no rule
unfoldable pub Told : Step → ℕ → ℕ → ℕ → ℕ → ℕ → ℕ → Type 0
Told (Day d c) at left r day at' left' = (r ≡ 0) × (day ≡ day_count d.0) × (at' ≡ day_count c.at.0) × (left' ≡ c.left)
Told Done at left r day at' left' = (r ≡ 1) × (day ≡ 0) × (at' ≡ at) × (left' ≡ left)
Told Skipped at left r day at' left' = (r ≡ 2) × (day ≡ 0) × (at' ≡ at) × (left' ≡ left)

abbrev pub run_of : Option Range → Run
run_of (Some r) = record { first = day_count r.first.0; count = r.count }
run_of None = record { first = 0; count = 0 }
