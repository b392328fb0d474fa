-- A sheet from its parts: the lists of a calendar that was found, the bytes that were written, the answer. Assumes nothing.
use mathlib.Core.Path.{◌≡◌, refl, sym, ap, ◌∙◌}
use Rattle.definition.specs.declared.Refusal.TheVariants.{NoRoom}
use Rattle.std.specs.Prelude.{Err, Ok}
use mathlib.Core.Bool.{true, false}
use mathlib.Core.List.{List, [], ◌∷◌}
use Rattle.std.specs.Prelude.{Option, Some, None}
use Prim.Native.Nat.{ℕ, zero, suc, ◌+◌, ◌*◌, ◌/◌, ◌%◌, ◌≤◌, ◌<◌}
use native.Mathlib.Nat.{add-zero}
use native.Mathlib.Omega.{arith}
use borrow.Author.Tests.{le-leb, lt-leb}
use lib.IntN.{ℤ}
use Rattle.std.specs.Prelude.{slice_get}
use Rattle.std.proofs.lemmas.Option.{slice_get_past}
use Rattle.date.specs.Answer.{weekday_at}
use lib.ListN.{length, take, drop, get_or, length-append, length-replicate}
use lib.Seq.{get_or-drop, length-take-le}
use Rattle.definition.specs.Base.{◌>>=◌}
use Rattle.definition.specs.Text.{Text}
use Rattle.definition.specs.Bits.{Bits, bits_of, bytes_of}
use Rattle.definition.specs.Date.{Date, weekday, from_days}
use Rattle.definition.specs.Format.{Format, Period, whole, times, periods, dates}
use Rattle.definition.specs.Model.{Calendar}
use Rattle.definition.specs.Pack.{calendar}
use Rattle.definition.specs.Calendar.{or_hours, hours_on, default_periods, day_periods}
use Rattle.definition.specs.DaySheet.{sheet, day_sheet}
use Rattle.definition.specs.Refusal.{refused, in_room, sheet_on, day_sheet_answer}
use Rattle.laws.specs.Bits.{length_bytes, whole_bytes, bits_take, bytes_of_lem}
use Rattle.laws.specs.Each.{each_take}
use Rattle.bits.specs.Places.{at, inside, Fits, room_none}
use Rattle.bits.specs.Clear.{cleared, cleared_all}
use Rattle.bits.specs.Steps.{Puts, Step, said, view, view_in}
use Rattle.laws.specs.Buf.{◌▷◌, size_of}
use Rattle.bits.specs.Round.{put_stood, overran}
use Rattle.bits.specs.declared.Place.{Place}
use Rattle.model.specs.Lax.{lax_same}
use Rattle.model.specs.Passes.{Passes, stood, pass_read}
use Rattle.model.specs.Parts.{record_of, lax_calendars}
use Rattle.model.specs.Splits.{Stands, read_stands}
use Rattle.model.specs.Lists.{stands_rest, ahead_later, ahead_item}
use Rattle.model.specs.Places.{CalendarAt, calendar_is}
use Rattle.model.specs.Sections.{byte_at, byte_rest, Opens}
use Rattle.model.specs.declared.parts.CalendarPlaces.{CalendarPlaces}
use Rattle.model.specs.PerKind.{Sections}
use Rattle.model.specs.declared.records.Kind.TheVariants.{Calendars}
use Rattle.day_sheet.specs.Days.{exceptions, Listed, DayIs, day_value}
use Rattle.day_sheet.specs.Answer.{start, leaves, left_by, Found}
use Rattle.day_sheet.specs.declared.Day.{Day}
use Rattle.day_sheet.proofs.Walks.{listed}

-- ---- the lists of a calendar

pub record Lists (s : List ℕ) (r : CalendarPlaces) (c : Calendar) : Type 0 where
  pub holidays : Stands dates s r.holidays c.holidays
  pub extra : Stands dates s r.extra c.extra_days
  pub exceptions : Stands exceptions s r.exceptions c.exceptions
  pub usual : (d : Date) (q : Place) → Passes (times (weekday d) periods) s r.hours q → Listed s q (get_or c.hours (weekday d) [])

weekday_lt : (d : Date) → weekday d < 7
unfolding weekday
weekday_lt d = omega arith

pub lists_of : {s : List ℕ} {p : Place} {r : CalendarPlaces} {c : Calendar} → CalendarAt s p r → Stands (whole calendar) s p c → Lists s r c
lists_of {s} {p} {r} {c} b h =
    let i = calendar_is h b in
    let x = stands_rest i.exceptions in
    let y = stood x.1 (pass_read i.extra) in
    let z = stood y.1 (pass_read i.holidays) in
    record {
      holidays = read_stands y.1 i.holidays;
      extra = read_stands x.1 i.extra;
      exceptions = i.exceptions;
      usual = λ d q k.
          let t = ahead_item (ahead_later 7 (weekday d) (lax_same periods) z.1 i.hours k) (weekday_lt d) in
          let e : t.item ≡ get_or c.hours (weekday d) [] = sym (ap (λ (l : List (List Period)). get_or l 0 []) t.is) ∙ get_or-drop (weekday d) c.hours 0 [] ∙ ap (λ (n : ℕ). get_or c.hours n []) (add-zero (weekday d)) in
          listed s q (rw e at t.stands);
    }

-- ---- the bytes that were written

whole_even : {A : Type 0} (f : Format A) (a : A) → length ((whole f).put 0 a) % 8 ≡ 0
unfolding whole
whole_even f a = let g = f.put 0 a in simp (length-append, length-replicate) (omega arith)

module _ {A : Type 0} (f : Format A) (a : A) {d₀ d : List ℕ} {end : Place} (w : Puts (whole f) a d₀ start d end) where
  wrote : inside (length d) end ≡ true → ((i : ℕ) → get_or d i 0 < 256) → (bytes_of ((whole f).put 0 a) ≡ take end.byte d) × (end.byte ≤ length d)
  wrote h b =
      let g = (whole f).put 0 a in
      let st = put_stood w h in
      let n = end.byte in
      let e : n ≡ (0 + length g) / 8 = ap (λ (q : Place). q.byte) st.ends in
      let k : 0 + length g ≡ 8 * n = omega (arith, whole_even f a) in
      let le : n ≤ length d = omega (arith, st.began.ends, w.step.same) in
      let is : g ≡ bits_of (take n d) = sym st.stand ∙ ap (λ (m : ℕ). take m (bits_of d)) k ∙ bits_take n d le in
      (ap (λ (l : Bits). bytes_of l) is ∙ whole_bytes (each_take n (bytes_of_lem d b)), le)

  short : inside (length d) end ≡ false → length d < length (bytes_of ((whole f).put 0 a))
  short h =
      let g = (whole f).put 0 a in
      let n = size_of (view d₀ start) in
      let s : Step d₀ start (λ b. b ▷ (whole f).put n a) d end = said w.step _ refl in
      let fits : Fits (length d₀) start 0 = record { bit = omega arith; ends = omega arith } in
      let e : n ≡ 0 = ap size_of (view_in d₀ start fits) in
      let lt : 8 * length d₀ < at start + length ((whole f).put n a) = room_none (length d₀) start _ (overran ((whole f).put n a) s h) (omega arith) in
      let lt' : 8 * length d₀ < at start + length g = rw e at lt in
      omega (arith, length_bytes (length g / 8) g, whole_even f a, w.step.same)

  -- zeros alone, and the bytes with zeros behind them
  pub left_short : inside (length d) end ≡ false → leaves (Err NoRoom) (cleared 0 d) ≡ left_by (length d₀) (in_room (length d₀) (bytes_of ((whole f).put 0 a)))
  unfolding in_room
  left_short h = rw (← w.step.same, lt-leb _ _ (short h), cleared_all d)

  pub left_written : inside (length d) end ≡ true → ((i : ℕ) → get_or d i 0 < 256)
      → leaves (Ok end.byte) (cleared end.byte d) ≡ left_by (length d₀) (in_room (length d₀) (bytes_of ((whole f).put 0 a)))
  unfolding in_room
  left_written h b =
      let (is, le) = wrote h b in
      let n : length (take end.byte d) ≡ end.byte = length-take-le end.byte d le in
      rw (← w.step.same, is, n, le-leb _ _ le, n)

-- ---- the answer

or_or : (a b c : List Period) → or_hours (or_hours a b) c ≡ or_hours a (or_hours b c)
or_or [] b c = refl
or_or (p ∷ a) b c = refl

sheet_is : {s : List ℕ} {c : Calendar} {d : Date} {r : Day} → DayIs s c d r
    → bytes_of (sheet.put 0 (day_value r (or_hours (hours_on c.exceptions d) (get_or c.hours (weekday d) [])))) ≡ day_sheet c d
unfolding day_sheet day_periods
sheet_is {c = c} {d = d} h = rw (h.weekday, h.holiday, h.extra, or_or (hours_on c.exceptions d) (get_or c.hours (weekday d) []) default_periods)

element_at_lem : {A : Type 0} (xs : List A) (i : ℕ) {x : A} {ys : List A} → drop i xs ≡ x ∷ ys → slice_get xs i ≡ Some x
element_at_lem [] zero e = cc
element_at_lem [] (suc i) e = cc
element_at_lem (y ∷ xs) zero e = cc
element_at_lem (y ∷ xs) (suc i) e = element_at_lem xs i e

-- a date's weekday
dated : (z : ℤ) {w : ℕ} → weekday_at z ≡ Some w → (d : Date) × (from_days z ≡ Some d) × (w ≡ weekday d)
unfolding weekday_at
dated z {w} e = by (from_days z) refl e
  where
    by : (o : Option Date) → from_days z ≡ o → (o >>= λ d. Some (weekday d)) ≡ Some w → (d : Date) × (from_days z ≡ Some d) × (w ≡ weekday d)
    by None f g = absurd (cc)
    by (Some d) f g = (d, f, cc)

undated : (z : ℤ) → weekday_at z ≡ None → from_days z ≡ None
unfolding weekday_at
undated z e = by (from_days z) refl e
  where
    by : (o : Option Date) → from_days z ≡ o → (o >>= λ d. Some (weekday d)) ≡ None → from_days z ≡ None
    by None f g = f
    by (Some d) f g = absurd (cc)

module _ {s : Text} (row : ℕ) (z : ℤ) (room : ℕ) {o : Option Sections} (h : Opens s o) where
  pub no_model : o ≡ None → day_sheet_answer s row z room ≡ refused 6
  unfolding day_sheet_answer
  no_model e = rw (h.refused e)

  -- the date is none
  pub no_date : {r : Sections} → o ≡ Some r → weekday_at z ≡ None → day_sheet_answer s row z room ≡ refused 8
  unfolding day_sheet_answer
  no_date {r} ok e = let m = h.model r ok in rw (m.decodes, undated z e) (by_row (slice_get m.model.calendars row))
    where
      by_row : (c : Option Calendar) → sheet_on c None room ≡ refused 8
      by_row None = refl
      by_row (Some c) = refl

  -- the row is none
  pub no_row : {r : Sections} → o ≡ Some r → r.calendars.count ≤ row → day_sheet_answer s row z room ≡ refused 8
  unfolding day_sheet_answer
  no_row {r} ok le =
      let m = h.model r ok in
      rw (m.decodes, slice_get_past m.model.calendars row (omega (arith, m.sections.calendars.count)))

-- the calendar of the row stands where the records before it end
pub record SheetAt (s : Text) (row : ℕ) (z : ℤ) (w : ℕ) (p : Place) : Type 0 where
  pub value : Calendar
  pub date : Date
  pub stands : Stands (whole calendar) s p value
  pub is_date : from_days z ≡ Some date
  pub on : w ≡ weekday date
  pub answers : (room : ℕ) → day_sheet_answer s row z room ≡ in_room room (day_sheet value date)

pub sheet_at : {s : Text} (row : ℕ) (z : ℤ) {o : Option Sections} → Opens s o → {r : Sections} → o ≡ Some r → {w : ℕ} → weekday_at z ≡ Some w → {p : Place} → row < r.calendars.count
    → Passes (times row (record_of false Calendars)) s (byte_at r.calendars.at) p → SheetAt s row z w p
unfolding day_sheet_answer
sheet_at {s} row z h {r} ok e {p} lt q =
    let m = h.model r ok in
    let x = m.sections.calendars in
    let d = dated z e in
    let i = ahead_item (ahead_later r.calendars.count row (lax_calendars false) (byte_rest s _ x.ends) x.reads q) lt in
    record {
      value = i.item;
      date = d.0;
      stands = i.stands;
      is_date = d.1;
      on = d.2;
      answers = λ room. rw (m.decodes, element_at_lem m.model.calendars row i.is, d.1);
    }

-- what a sheet is put of
pub found : {s : Text} {row : ℕ} {z : ℤ} {w : ℕ} {p : Place} {r : Day} (t : SheetAt s row z w p) → DayIs s t.value t.date r → Found s row z (Ok r)
found t h = (_, h.hours, λ room. t.answers room ∙ ap (in_room room) (sym (sheet_is h)))
