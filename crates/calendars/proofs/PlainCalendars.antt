-- The two calendars that no file gives, field by field. Assumes nothing.
use Rattle.std.proofs.Common.{◌≡◌, ℕ, zero, suc, ◌+◌, ◌/◌, ◌%◌, ◌^◌, ◌<◌, eqb, ltb, List, [], ◌∷◌, map, replicate, sym, refl, ap, mod-lt, arith}
use Rattle.std.specs.Prelude.{Option, Some, None}
use Rattle.std.proofs.lemmas.List.{replicate-append-replicate}
use Rattle.definition.specs.Bits.{Bits, enc}
use Rattle.definition.specs.Format.{Format, ◌⊗◌, field, via, times, put_all, list_of, count, flag, date, text, period, periods, dates, earlier}
use Rattle.definition.specs.Model.{Calendar}
use Rattle.definition.specs.Calendar.{by_date, plain_calendar, default_calendar, elapsed_calendar}
use Rattle.definition.specs.Pack.{calendar}
use Rattle.definition.specs.Ascii.{bytes}
use Rattle.laws.specs.Buf.{◌▷◌}
use Rattle.bits.specs.Steps.{Puts, view, said, field_step, put_same, put_via, put_no, put_more, put_list}
use Rattle.bits.specs.declared.Place.{Place}
use Rattle.definition.specs.declared.Period.{Period as PeriodAt}
use Rattle.calendar.specs.Week.{flags_in}
use Rattle.calendar_days.proofs.Inserts.{put_empty}
use Rattle.calendars.specs.Plain.{hours_each}

-- ---- the default calendar, and the elapsed one

pub default_is : plain_calendar (bytes "Standard") (flags_in 124) (replicate 7 (hours_each None)) ≡ default_calendar
unfolding default_calendar flags_in enc
default_is = refl

pub elapsed_is : plain_calendar (bytes "Elapsed (24 hours)") (flags_in 127) (replicate 7 (hours_each (Some record { from = 0; to = 1440 }))) ≡ elapsed_calendar
unfolding elapsed_calendar flags_in enc
elapsed_is = refl

-- ---- what is put

-- flags are their bits
bit_back : (b n : ℕ) → b < 2 → flag.put n (eqb 1 b) ≡ b ∷ []
unfolding flag via field enc
bit_back zero n h = refl
bit_back (suc zero) n h = refl
bit_back (suc (suc b)) n h = absurd (omega arith)

flags_bits : (w v n : ℕ) → put_all flag n (map (eqb 1) (enc w v)) ≡ enc w v
unfolding put_all enc
flags_bits zero v n = refl
flags_bits (suc w) v n = rw (bit_back (v / 2 ^ w % 2) n (mod-lt (v / 2 ^ w) (omega arith)), flags_bits w v (n + 1))

module _ {d : List ℕ} {p : Place} {d' : List ℕ} {q : Place} where
  pub put_week : (v : ℕ) → Puts (field 7) v d p d' q → Puts (times 7 flag) (flags_in v) d p d' q
  unfolding times flags_in
  put_week v x = record { step = said (field_step 7 x) _ (ap (λ (l : Bits). view d p ▷ l) (sym (flags_bits 7 v _))) }

  pub put_calendar : (c : Calendar) → Puts (text ⊗ times 7 flag ⊗ times 7 periods ⊗ dates ⊗ dates ⊗ list_of by_date (date ⊗ periods)) (c.name, (c.week, (c.hours, (c.holidays, (c.extra_days, c.exceptions))))) d p d' q
      → Puts calendar c d p d' q
  unfolding calendar
  put_calendar c h = put_via _ _ h

-- the same once more
pub put_again : {A : Type 0} (k : ℕ) (f : Format A) (n : ℕ) {x : A} {d : List ℕ} {p : Place} {d1 : List ℕ} {p1 : Place} {d2 : List ℕ} {p2 : Place} → Puts (times k f) (replicate n x) d p d1 p1 → Puts f x d1 p1 d2 p2
    → Puts (times k f) (replicate (n + 1) x) d p d2 p2
put_again k f n {x} h i = put_same (replicate-append-replicate n 1 x) (put_more k h i)

-- no hours, and a period
module _ {d d1 : List ℕ} {p p1 : Place} where
  pub no_dates : Puts count 0 d p d1 p1 → Puts dates [] d p d1 p1
  unfolding dates
  no_dates x = put_empty ltb date x

  pub no_hours : {o : Option PeriodAt} → o ≡ None → Puts count 0 d p d1 p1 → Puts periods (hours_each o) d p d1 p1
  unfolding periods
  no_hours e x = put_same (ap hours_each (sym e)) (put_empty earlier period x)

  pub day_hours_lem : {o : Option PeriodAt} {t : PeriodAt} {d2 : List ℕ} {p2 : Place} → o ≡ Some t → Puts count 1 d p d1 p1 → Puts period (t.from, t.to) d1 p1 d2 p2 → Puts periods (hours_each o) d p d2 p2
  unfolding periods
  day_hours_lem e x y = put_same (ap hours_each (sym e)) (put_list 1 earlier period x (put_more 1 (put_no 1 period d1 p1) y))
