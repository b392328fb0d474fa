-- The week and the hours of a calendar over its base's; the record from its parts. Assumes nothing.
use Rattle.std.specs.Prelude.{if◌then◌else◌}
use Rattle.std.proofs.Common.{◌≡◌, ℕ, suc, ◌+◌, ◌-◌, ◌<◌, ◌≤◌, Bool, true, false, eqb, List, ◌∷◌, ◌++◌, map, length, get_or, take, drop, set, sym, refl, ap, ◌∙◌, arith, length-set, get_or-drop, take_all, get_or-set_other, take-suc, get_or-set_same, take_at, eqb-true, []}
use Rattle.std.specs.Prelude.{Option, Some, None}
use borrow.Author.Tests.{eqb-false}
use lib.ListN.{length-map, get_or-replicate}
use Rattle.definition.specs.Base.{◌>>=◌, ◌or◌, ◌or_else◌, when, find_last}
use Rattle.definition.specs.Bits.{Bits, enc, dec}
use Rattle.definition.specs.Ascii.{bytes}
use Rattle.definition.specs.Format.{Period, count, field, via, flag, bit, times, put_all, text, periods}
use Rattle.definition.specs.Model.{Calendar}
use Rattle.definition.specs.Field.{text_in, yes_in}
use Rattle.definition.specs.Tree.{Element}
use Rattle.definition.specs.Calendar.{place_of, periods_of, week_days, week_by, hours_by, calendar_of, default_calendar}
use Rattle.laws.specs.Each.{empty, next}
use Rattle.laws.specs.Bits.{Binary, length_enc, enc_dec}
use Rattle.laws.specs.Formats.{good_times}
use Rattle.laws.specs.FitRecords.{good_week}
use Rattle.laws.specs.Fields.{good_periods}
use Rattle.laws.specs.FitCalendars.{week_length}
use Rattle.bits.specs.Moves.{Copies}
use Rattle.bits.specs.Places.{at, inside, Fits, room_fits}
use Rattle.bits.specs.Reads.{rest_in, Reads, taken_at, take_whole}
use Rattle.bits.specs.Round.{stood_from}
use Rattle.bits.specs.Steps.{Puts, Pads, put_same, put_no, put_more}
use Rattle.bits.specs.declared.Place.{Place}
use Rattle.calendar.specs.Week.{flags_in, word_of}
use Rattle.model.specs.Lax.{lax_same}
use Rattle.model.specs.Passes.{Passes}
use Rattle.model.specs.Splits.{later, step}
use Rattle.model.specs.declared.parts.CalendarPlaces.{CalendarPlaces}
use Rattle.pack.specs.Value.{starred_by}
use Rattle.names.specs.Kept.{reads_there}
use Rattle.calendar_days.proofs.Copies.{copy_out, copied, standing}
use Rattle.calendar_days.specs.Items.{free_periods}
use Rattle.calendars.proofs.PlainCalendars.{put_calendar}
use Rattle.calendar_days.proofs.Times.{begun}
use Rattle.calendar_days.proofs.Overs.{read_from, lasts_put, over_plain, over_as, over-⊗, over_whole}
use Rattle.calendar_days.proofs.WholeDays.{good_lists}
use Rattle.calendar_days.specs.Over.{Over}
use Rattle.calendar_days.specs.Lists.{DayLists, day_lists, days_over}
use Rattle.calendars.specs.Base.{lists_of, Based, BaseIs}
use Rattle.calendars.proofs.Overs.{base_lasts}
use Rattle.calendars.specs.Record.{WeekRead, is_place, on_place, hours_of, day_hours, CopiesHours, BaseHours, PutsHours, PutsWeekHours, named, PutsCalendar}

-- ---- flags and their word

bits_flags : (l : List Bool) → Binary (map bit l)
bits_flags [] = empty
bits_flags (true ∷ l) = next {x = 1} (omega arith) (bits_flags l)
bits_flags (false ∷ l) = next {x = 0} (omega arith) (bits_flags l)

flags_bits : (l : List Bool) → map (eqb 1) (map bit l) ≡ l
flags_bits [] = refl
flags_bits (true ∷ l) = ap (λ (m : List Bool). true ∷ m) (flags_bits l)
flags_bits (false ∷ l) = ap (λ (m : List Bool). false ∷ m) (flags_bits l)

flags_word : (week : List Bool) → length week ≡ 7 → flags_in (word_of week) ≡ week
unfolding flags_in word_of
flags_word week h =
    let n : length (map bit week) ≡ 7 = length-map week bit ∙ h in
    let e : enc 7 (dec (map bit week)) ≡ map bit week = rw n at (enc_dec (bits_flags week)) in
    rw e (flags_bits week)

flags_length : (w : ℕ) → length (flags_in w) ≡ 7
unfolding flags_in
flags_length w = length-map (enc 7 w) (eqb 1) ∙ length_enc 7 w

flags_put : (n : ℕ) (l : List Bool) → put_all flag n l ≡ map bit l
unfolding put_all flag via field enc
flags_put n [] = refl
flags_put n (true ∷ l) = ap (λ (m : Bits). 1 ∷ m) (flags_put (n + length (flag.put n true)) l)
flags_put n (false ∷ l) = ap (λ (m : Bits). 0 ∷ m) (flags_put (n + length (flag.put n false)) l)

-- ---- the week

week_there : {r : CalendarPlaces} {d : List ℕ} {p : Place} {c : Calendar} → Based r d p c → (v : ℕ) → v ≡ (taken_at d r.week 7).value → flags_in v ≡ c.week
unfolding times word_of
week_there {r} {d} {p} {c} b v e =
    let (f3, (l3, i3)) = read_from good_lists b.lists.reads b.lists.inner in
    let (f2, (l2, i2)) = read_from (good_times 7 good_periods) b.hours i3 in
    let (seven, st) = reads_there good_week b.week i2 in
    let k = flags_put (at r.week) c.week in
    let n : length (map bit c.week) ≡ 7 = length-map c.week bit ∙ seven in
    let m : length (put_all flag (at r.week) c.week) ≡ 7 = ap length k ∙ n in
    let f : Fits (length d) r.week 7 = rw m at st.began in
    let t : v ≡ dec (map bit c.week) = e ∙ ap (λ x. x.value) (take_whole d r.week 7 f) ∙ ap (λ (l : Bits). dec (take 7 l)) (stood_from st) ∙ ap dec (take_at (put_all flag (at r.week) c.week) _ 7 m ∙ k) in
    ap flags_in t ∙ flags_word c.week seven

pub week_at : {r : CalendarPlaces} {d : List ℕ} {v : ℕ} → v ≡ (taken_at d r.week 7).value → WeekRead (Some r) d v
unfolding BaseIs
week_at {r} {d} {v} e = record { week = λ p c i. week_there i v e }

pub week_default : (d : List ℕ) → WeekRead None d 124
unfolding BaseIs default_calendar flags_in enc
week_default d = record { week = λ p c i. rw i }

-- ---- the hours

hours_length : (ws : List Element) (hours : List (List Period)) → length (hours_by ws hours) ≡ length hours
unfolding hours_by
hours_length [] hours = refl
hours_length (w ∷ ws) hours = hours_length ws _ ∙ by_place (place_of w)
  where
    by_place : (o : Option ℕ) → length ((o >>= λ k. Some (set hours k (hours_of w))) or hours) ≡ length hours
    by_place None = refl
    by_place (Some k) = length-set hours k (hours_of w)

-- of a day, as one WeekDay says
abbrev hours_with : Element → List (List Period) → Option ℕ → List (List Period)
hours_with w hours o = (o >>= λ k. Some (set hours k (hours_of w))) or hours

with_length : (w : Element) (hours : List (List Period)) (o : Option ℕ) → length (hours_with w hours o) ≡ length hours
with_length w hours None = refl
with_length w hours (Some k) = length-set hours k (hours_of w)

one_day : (w : Element) (hours : List (List Period)) (day : ℕ) → day < length hours → (o : Option ℕ) → get_or (hours_with w hours o) day [] ≡ (when (is_place day o) w >>= λ v. Some (hours_of v)) or get_or hours day []
one_day w hours day h None = refl
one_day w hours day h (Some k) = by_place (eqb k day) refl
  where
    by_place : (t : Bool) → eqb k day ≡ t → get_or (set hours k (hours_of w)) day [] ≡ (when (eqb k day) w >>= λ v. Some (hours_of v)) or get_or hours day []
    by_place true e = let z = eqb-true k day e in rw (e, z) (get_or-set_same hours day (hours_of w) [] h)
    by_place false e = rw e (get_or-set_other hours k day (hours_of w) [] (λ z. eqb-false k day e (sym z)))

-- the last WeekDay of a day decides
day_hours_lem : (ws : List Element) (hours : List (List Period)) (day : ℕ) → day < length hours → get_or (hours_by ws hours) day [] ≡ (find_last (on_place day) ws >>= λ w. Some (hours_of w)) or get_or hours day []
unfolding hours_by find_last
day_hours_lem [] hours day h = refl
day_hours_lem (w ∷ ws) hours day h = day_hours_lem ws (hours_with w hours (place_of w)) day (rw (with_length w hours (place_of w)) h) ∙ by_later (find_last (on_place day) ws)
  where
    by_later : (o : Option Element) → (o >>= λ v. Some (hours_of v)) or get_or (hours_with w hours (place_of w)) day [] ≡ (o or_else when (on_place day w) w >>= λ v. Some (hours_of v)) or get_or hours day []
    by_later None = one_day w hours day h (place_of w)
    by_later (Some v) = refl

hours_seven : (b : Option CalendarPlaces) (d : List ℕ) (p : Place) (c : Calendar) → BaseIs b d p c → length c.hours ≡ 7
unfolding BaseIs default_calendar
hours_seven (Some r) d p c i =
    let (f3, (l3, i3)) = read_from good_lists i.lists.reads i.lists.inner in
    (read_from (good_times 7 good_periods) i.hours i3).0.many
hours_seven None d p c i = rw i

first_is : {A : Type 0} (l : List A) (k : ℕ) (x d : A) (m : List A) → drop k l ≡ x ∷ m → get_or l k d ≡ x
first_is l k x d m e = ap (λ (n : ℕ). get_or l n d) (omega arith) ∙ sym (get_or-drop k l 0 d) ∙ ap (λ (t : List _). get_or t 0 d) e

module _ {day : ℕ} {hours : Place} {d : List ℕ} {from to p : Place} {d' : List ℕ} {q : Place} where
  pub hours_copied : Passes (times day periods) d hours from → Passes periods d from to → Copies from to d p d' q → CopiesHours day hours d p d' q
  hours_copied h i c = record { puts = λ lt hs end k. by_room lt hs end k (inside (length d) p) refl }
    where
      by_room : day < 7 → (hs : List (List Period)) (end : Place) → (inside (length d) p ≡ true → Reads (times 7 periods) d hours hs end × ((inside (length d) end ≡ true) × (at end ≤ at p))) → (t : Bool) → inside (length d) p ≡ t
          → Puts periods (get_or hs day []) d p d' q
      by_room lt hs end k false e = copy_out periods (get_or hs day []) e c
      by_room lt hs end k true e =
          let (r, (ie, le)) = k e in
          let there = rest_in d end (room_fits (length d) end 0 ie) in
          let s = step (lax_same periods) there (later day (lax_same periods) there r (omega arith) h) lt i in
          let (f, (lo, io)) = read_from (good_times (7 - (day + 1)) good_periods) s.on ie in
          put_same (sym (first_is hs day s.item [] _ s.is)) (copied good_periods free_periods (standing good_periods free_periods s.reads io) (omega arith) c)

module _ {day : ℕ} {d : List ℕ} {p : Place} {d' : List ℕ} {q : Place} where
  pub base_hours_at : {r : CalendarPlaces} → CopiesHours day r.hours d p d' q → BaseHours (Some r) day d p d' q
  unfolding BaseIs
  base_hours_at {r} h = record {
    puts = λ lt. record {
      puts = λ c k. h.puts lt c.hours r.holidays (λ e.
          let i = k e in
          let (f3, (l3, i3)) = read_from good_lists i.lists.reads i.lists.inner in
          (i.hours, (i3, omega (arith, l3, i.lists.before))));
    };
  }

  pub base_hours_default : Puts periods [] d p d' q → BaseHours None day d p d' q
  unfolding BaseIs default_calendar
  base_hours_default h = record { puts = λ lt. over_as (λ c. get_or c.hours day []) (λ c i. rw i (sym (get_or-replicate 7 day [] [] lt))) (over_plain h) }

  module _ (ws : List Element) where
    pub hours_of_base : {b : Option CalendarPlaces} → find_last (on_place day) ws ≡ None → BaseHours b day d p d' q → PutsHours ws day b d p d' q
    hours_of_base {b} e h = record {
      puts = λ lt. over_as (day_hours ws day) (λ c i. let n = hours_seven b d p c i in sym (day_hours_lem ws c.hours day (omega arith) ∙ rw e)) (h.puts lt);
    }

    pub hours_of_day : (b : Option CalendarPlaces) {w : Element} → find_last (on_place day) ws ≡ Some w → Puts periods (hours_of w) d p d' q → PutsHours ws day b d p d' q
    hours_of_day b e h = record {
      puts = λ lt. over_as (day_hours ws day) (λ c i. let n = hours_seven b d p c i in sym (day_hours_lem ws c.hours day (omega arith) ∙ rw e)) (over_plain h);
    }

-- of the first days of the week
abbrev pub PutsDays : List Element → ℕ → Option CalendarPlaces → List ℕ → Place → List ℕ → Place → Type 0
PutsDays ws day b = Over (times 7 periods) (BaseIs b) (λ c. take day (hours_by ws c.hours))

pub hours_none : (ws : List Element) (b : Option CalendarPlaces) (d : List ℕ) (p : Place) → PutsDays ws 0 b d p d p
hours_none ws b d p = record { puts = λ c k. put_no 7 periods d p }

module _ (ws : List Element) {b : Option CalendarPlaces} {d₀ : List ℕ} {p₀ : Place} {d : List ℕ} {p : Place} where
  pub hours_more : {day : ℕ} {d' : List ℕ} {q : Place} → day < 7 → PutsDays ws day b d₀ p₀ d p → PutsHours ws day b d p d' q → PutsDays ws (day + 1) b d₀ p₀ d' q
  hours_more {day} {d'} {q} lt h i =
      over_as (λ c. take (day + 1) (hours_by ws c.hours))
      (λ c j. let n = hours_seven b d₀ p₀ c j in let m = hours_length ws c.hours in sym (take-suc (hours_by ws c.hours) day [] (omega arith)) ∙ ap (λ (k : ℕ). take k (hours_by ws c.hours)) next)
      both
    where
      next : suc day ≡ day + 1
      next = omega arith

      both : Over (times 7 periods) (BaseIs b) (λ c. take day (hours_by ws c.hours) ++ (day_hours ws day c ∷ [])) d₀ p₀ d' q
      both = record { puts = λ c k. let x = h.puts c k in put_more 7 x ((i.puts lt).puts c (λ e. lasts_put (base_lasts b) x e c k)) }

pub hours_all : (ws : List Element) (b : Option CalendarPlaces) {d₀ : List ℕ} {p₀ : Place} {d : List ℕ} {p : Place} {day : ℕ} → 7 ≤ day → PutsDays ws day b d₀ p₀ d p → PutsWeekHours ws b d₀ p₀ d p
hours_all ws b {d₀} {p₀} {day = day} le h =
    over_as (λ c. hours_by ws c.hours) (λ c j. let n = hours_seven b d₀ p₀ c j in let m = hours_length ws c.hours in take_all day (hours_by ws c.hours) (omega arith)) h

-- those of a WeekDay
module _ (w : Element) {t : Bool} (e : t ≡ yes_in w "DayWorking") {d : List ℕ} {p : Place} {d' : List ℕ} {q : Place} where
  pub own_free : t ≡ false → Puts count 0 d p d' q → Puts periods (hours_of w) d p d' q
  own_free h x = put_same (sym (ap (λ (b : Bool). if b then periods_of w else []) (sym e ∙ h))) (begun x)

-- ---- the record

-- what follows the name, over a base, with a week
abbrev fields_by : Element → Calendar → List Bool → List Bool × (List (List Period) × DayLists)
fields_by e c week = (week, (hours_by (week_days e) c.hours, days_over e week (lists_of c)))

module _ (e : Element) (stars : ℕ) {b : Option CalendarPlaces} {d d1 d2 d3 d4 d5 : List ℕ} {p p1 p2 p3 p4 p5 : Place} where
  pub calendar_over : {w week : ℕ} → Puts text (starred_by (text_in e "Name" or bytes "Calendar") stars) d p d1 p1 → WeekRead b d1 w → week ≡ word_of (week_by (week_days e) (flags_in w)) → Puts (times 7 flag) (flags_in week) d1 p1 d2 p2
      → PutsWeekHours (week_days e) b d2 p2 d3 p3 → Over day_lists (BaseIs b) (λ c. days_over e (flags_in week) (lists_of c)) d3 p3 d4 p4 → Pads d4 p4 d5 p5 → PutsCalendar e stars b d p d5 p5
  unfolding calendar_of
  calendar_over {w} {week} n r z x2 x3 x4 x5 =
      let l = base_lasts b in
      let is : (c : Calendar) → BaseIs b d1 p1 c → flags_in week ≡ week_by (week_days e) c.week =
      λ c i. ap flags_in z ∙ flags_word (week_by (week_days e) (flags_in w)) (week_length (week_days e) (flags_in w) ∙ flags_length w) ∙ ap (week_by (week_days e)) (r.week p1 c i) in
      let fields = over_as (λ c. fields_by e c (week_by (week_days e) c.week)) (λ c i. ap (fields_by e c) (is c i)) (over-⊗ l (over_plain x2) (over-⊗ l x3 x4)) in
      let all = over-⊗ l (over_plain n) fields in
      over_whole (record { puts = λ c k. put_calendar (named e stars c) (all.puts c k) }) x5
