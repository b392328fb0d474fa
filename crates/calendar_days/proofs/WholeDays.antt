-- The three lists of a calendar's days over those of its base. Assumes nothing.
use Rattle.std.proofs.Common.{◌≡◌, ℕ, ◌<◌, ◌≤◌, Bool, true, false, eqb, ltb, leb, List, length, drop, sym, refl, ap, ◌∙◌, subst, arith, ltb-false, ltb-true, eq-eqb, eqb-true, le-leb, leb-true}
use Rattle.calendar_days.specs.declared.base.Lists.{Lists}
use Rattle.std.specs.Prelude.{None}
use Rattle.std.specs.Prelude.{Option, Some}
use Rattle.definition.specs.Base.{◌>>=◌, ◌or◌, when}
use Rattle.definition.specs.Bits.{Bits, bits_of}
use Rattle.definition.specs.Date.{Date}
use Rattle.definition.specs.Calendar.{by_date}
use Rattle.definition.specs.Format.{Format, dates}
use Rattle.laws.specs.Formats.{Good, Both, Rising, ◌&◌, good_list}
use Rattle.laws.specs.Bools.{both}
use Rattle.laws.specs.Options.{never}
use Rattle.laws.specs.Fields.{InYears, good_periods}
use Rattle.laws.proofs.Fields.{good_date, good_dates}
use Rattle.bits.specs.Places.{at, past, inside, room_fits}
use Rattle.bits.specs.Reads.{Reads, rest, rest_in, rest_out, rest_past, spot_at, read-⊗}
use Rattle.bits.specs.declared.Place.{Place}
use Rattle.model.specs.Passes.{Passes, Told, refusing, reading, told, stood, ◌⨾◌}
use Rattle.names.specs.Kept.{reads_kept}
use Rattle.calendar_days.specs.Items.{IsDay}
use Rattle.calendar_days.specs.Days.{Day, exceptions, BaseHolidays, BaseExtraDays, BaseExceptions, PutsOver}
use Rattle.calendar_days.specs.Over.{Over, Lasts}
use Rattle.calendar_days.specs.Lists.{DayLists, day_lists, no_lists, not_behind, ended_by, lists_at, ListsFrom, ListsIn, BaseLists}
use Rattle.calendar_days.proofs.Overs.{read_from, over-⊗, over_part}

-- ---- the lists in a buffer

good_exceptions : Good exceptions (Rising by_date IsDay)
good_exceptions = good_list by_date (good_date & good_periods)

pub good_lists : Good day_lists (Both (Rising ltb InYears) (Both (Rising ltb InYears) (Rising by_date IsDay)))
good_lists = good_dates & good_dates & good_exceptions

-- places by their bytes
pub not_behind_lem : (p q : Place) → p.bit < 8 → not_behind p q ≡ true → at p ≤ at q
not_behind_lem p q b h = by_byte (ltb p.byte q.byte) refl
  where
    by_byte : (t : Bool) → ltb p.byte q.byte ≡ t → at p ≤ at q
    by_byte true e = omega (arith, ltb-true p.byte q.byte e)
    by_byte false e =
        let (x, y) = both (eqb p.byte q.byte) (leb p.bit q.bit) (rw e at h) in
        omega (arith, eqb-true p.byte q.byte x, leb-true p.bit q.bit y)

pub is_not_behind : (p q : Place) → q.bit < 8 → at p ≤ at q → not_behind p q ≡ true
is_not_behind p q b h = by_byte (ltb p.byte q.byte) refl
  where
    by_byte : (t : Bool) → ltb p.byte q.byte ≡ t → not_behind p q ≡ true
    by_byte true e = rw e
    by_byte false e =
        let k = ltb-false p.byte q.byte e in
        let x : p.byte ≡ q.byte = omega (arith, k, h, b) in
        let y : p.bit ≤ q.bit = omega (arith, x, h) in
        rw (e, eq-eqb p.byte q.byte x, le-leb p.bit q.bit y)

module _ {d : List ℕ} {from end : Place} (p : Place) {l : DayLists} (h : Reads day_lists d from l end) (i : inside (length d) end ≡ true) where
  -- lists that are read, by where they end
  pub lists_read : lists_at d from p ≡ when (not_behind end p) l or no_lists
  unfolding lists_at
  lists_read =
      let f = room_fits (length d) end 0 i in
      let z : (rest d from >>= day_lists.get) ≡ Some (l, drop (at end) (bits_of d)) = h.reads ∙ rw (rest_in d end f) in
      ap (λ (o : Option (DayLists × Bits)). (o >>= ended_by d p) or no_lists) z ∙ ap (λ (m : Place). when (not_behind m p) l or no_lists) (spot_at d end f)

-- lists that stand before a place are those
pub lists_there : {from : Place} {d : List ℕ} {p : Place} {l : DayLists} → inside (length d) p ≡ true → ListsFrom from d p l → lists_at d from p ≡ l
lists_there {d = d} {p} i h =
    let e = is_not_behind h.end p (room_fits (length d) p 0 i).bit h.before in
    lists_read p h.reads h.inner ∙ rw e

pub lists_past : (d : List ℕ) (p : Place) → lists_at d past p ≡ no_lists
unfolding lists_at
lists_past d p = rw (rest_past d)

-- they last
pub lists_last : (from : Place) → Lasts (ListsFrom from)
lists_last from = record {
  lasts = λ d p d' q k le l h. record {
    end = h.end;
    reads = reads_kept good_lists h.reads h.inner h.before k;
    inner = rw k.same h.inner;
    before = omega (arith, h.before);
  };
}

-- ---- those of a base

-- what is read where a place behind it is known
read_told : {A : Type 0} {f : Format A} {s : List ℕ} {p q : Place} {l : Bits} → rest s q ≡ Some l → Passes f s p q → (a : A) × Reads f s p a q
read_told {A} {f} {s} {p} {q} {l} z h = by_told (told h)
  where
    by_told : Told f s p q → (a : A) × Reads f s p a q
    by_told (refusing n e) = never (sym e ∙ z)
    by_told (reading a m e r) = (a, r)

module _ {d : List ℕ} {from extra days end : Place} (p : Place) (x : Passes dates d from extra) (y : Passes dates d extra days) (z : Passes exceptions d days end) where
  -- none stand there
  pub base_cut : inside (length d) end ≡ false → BaseLists None d p (lists_at d from p)
  unfolding BaseLists lists_at
  base_cut i = by_told (told (x ⨾ y ⨾ z))
    where
      by_told : Told day_lists d from end → (rest d from >>= day_lists.get >>= ended_by d p) or no_lists ≡ no_lists
      by_told (refusing n e) = rw n.gives
      by_told (reading a m e r) = never (sym (rest_out d end i) ∙ e)

  module _ (i : inside (length d) end ≡ true) where
    parts : (l : DayLists) × ((Reads dates d from l.0 extra × (Reads dates d extra l.1.0 days × Reads exceptions d days l.1.1 end)) × Reads day_lists d from l end)
    parts =
        let here = rest_in d end (room_fits (length d) end 0 i) in
        let (e, re) = read_told here z in
        let (m, zm) = stood here z in
        let (n, zn) = stood zm y in
        let (b, rb) = read_told zm y in
        let (a, ra) = read_told zn x in
        ((a, (b, e)), ((ra, (rb, re)), read-⊗ ra (read-⊗ rb re)))

    -- they end behind the place
    pub base_behind : not_behind end p ≡ false → BaseLists None d p (lists_at d from p)
    unfolding BaseLists
    base_behind k = let (l, (o, r)) = parts in lists_read p r i ∙ rw k

    pub base_stands : not_behind end p ≡ true → BaseLists (Some record { holidays = from; extra = extra; exceptions = days; end = end }) d p (lists_at d from p)
    unfolding BaseLists
    base_stands k =
        let (l, ((ra, (rb, re)), r)) = parts in
        let w : l ≡ lists_at d from p = sym (lists_read p r i ∙ rw k) in
        let f = room_fits (length d) end 0 i in
        subst (λ m. ListsIn record { holidays = from; extra = extra; exceptions = days; end = end } d p m) w
        record { holidays = ra; extra = rb; exceptions = re; inner = i; before = not_behind_lem end p f.bit k }

-- each list, where all stand
module _ (d : List ℕ) (p : Place) where
  pub holidays_there : (b : Option Lists) (l : DayLists) → BaseLists b d p l → BaseHolidays b d p l.0
  unfolding BaseLists BaseHolidays
  holidays_there (Some r) l i =
      let (f5, (l5, i5)) = read_from good_exceptions i.exceptions i.inner in
      let (f4, (l4, i4)) = read_from good_dates i.extra i5 in
      record { reads = i.holidays; within = i4; upto = omega (arith, l4, l5, i.before) }
  holidays_there None l i = rw i

  pub extra_there : (b : Option Lists) (l : DayLists) → BaseLists b d p l → BaseExtraDays b d p l.1.0
  unfolding BaseLists BaseExtraDays
  extra_there (Some r) l i =
      let (f5, (l5, i5)) = read_from good_exceptions i.exceptions i.inner in
      record { reads = i.extra; within = i5; upto = omega (arith, l5, i.before) }
  extra_there None l i = rw i

  pub exceptions_there : (b : Option Lists) (l : DayLists) → BaseLists b d p l → BaseExceptions b d p l.1.1
  unfolding BaseLists BaseExceptions
  exceptions_there (Some r) l i = record { reads = i.exceptions; within = i.inner; upto = i.before }
  exceptions_there None l i = rw i

-- all of them last
pub base_lasts : (b : Option Lists) → Lasts (BaseLists b)
unfolding BaseLists
base_lasts (Some r) = record {
  lasts = λ d p d' q k le l h.
      let (f5, (l5, i5)) = read_from good_exceptions h.exceptions h.inner in
      let (f4, (l4, i4)) = read_from good_dates h.extra i5 in
      record {
        holidays = reads_kept good_dates h.holidays i4 (omega (arith, l4, l5, h.before)) k;
        extra = reads_kept good_dates h.extra i5 (omega (arith, l5, h.before)) k;
        exceptions = reads_kept good_exceptions h.exceptions h.inner h.before k;
        inner = rw k.same h.inner;
        before = omega (arith, h.before);
      };
}
base_lasts None = record { lasts = λ d p d' q k le l h. h }

-- one list after another
pub lists_over : (b : Option Lists) {A B : List Date → List Date} {C : List Day → List Day} {d : List ℕ} {p : Place} {d1 : List ℕ} {p1 : Place} {d2 : List ℕ} {p2 : Place} {d3 : List ℕ} {p3 : Place}
    → PutsOver dates (BaseHolidays b d p) A d p d1 p1 → PutsOver dates (BaseExtraDays b d1 p1) B d1 p1 d2 p2 → PutsOver exceptions (BaseExceptions b d2 p2) C d2 p2 d3 p3
    → Over day_lists (BaseLists b) (λ l. (A l.0, (B l.1.0, C l.1.1))) d p d3 p3
lists_over b x y z =
    let l = base_lasts b in
    over-⊗ l (over_part (λ l. l.0) (holidays_there _ _ b) x) (over-⊗ l (over_part (λ l. l.1.0) (extra_there _ _ b) y) (over_part (λ l. l.1.1) (exceptions_there _ _ b) z))
