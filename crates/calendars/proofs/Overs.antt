-- A calendar's base behind what was put, and its lists of days. Assumes nothing.
use Rattle.std.proofs.Common.{◌≡◌, ℕ, Bool, true, false, List, length, refl, ap, ◌∙◌, arith}
use Rattle.model.specs.declared.parts.CalendarPlaces.{CalendarPlaces}
use Rattle.std.specs.Prelude.{None, Option, Some}
use Rattle.definition.specs.Model.{Calendar}
use Rattle.definition.specs.Calendar.{default_calendar}
use Rattle.laws.specs.Formats.{good_times}
use Rattle.laws.specs.Fields.{good_periods}
use Rattle.laws.specs.FitRecords.{good_week}
use Rattle.bits.specs.Places.{inside}
use Rattle.bits.specs.Steps.{Puts, put_same}
use Rattle.bits.specs.declared.Place.{Place}
use Rattle.pack.specs.Writes.{put_any}
use Rattle.names.specs.Kept.{reads_kept}
use Rattle.calendar_days.specs.Over.{Over, Lasts}
use Rattle.calendar_days.specs.Lists.{DayLists, day_lists, lists_at}
use Rattle.calendar_days.proofs.Overs.{read_from}
use Rattle.calendar_days.proofs.WholeDays.{good_lists, lists_there, lists_past, lists_last}
use Rattle.calendars.specs.Base.{lists_of, BaseIs, days_place}

pub base_lasts : (b : Option CalendarPlaces) → Lasts (BaseIs b)
unfolding BaseIs
base_lasts (Some r) = record {
  lasts = λ d p d' q k le c h.
      let (f3, (l3, i3)) = read_from good_lists h.lists.reads h.lists.inner in
      let (f2, (l2, i2)) = read_from (good_times 7 good_periods) h.hours i3 in
      record {
        week = reads_kept good_week h.week i2 (omega (arith, l2, l3, h.lists.before)) k;
        hours = reads_kept (good_times 7 good_periods) h.hours i3 (omega (arith, l3, h.lists.before)) k;
        lists = (lists_last r.holidays).lasts d p d' q k le (lists_of c) h.lists;
      };
}
base_lasts None = record { lasts = λ d p d' q k le c h. h }

lists_are : (d : List ℕ) (p : Place) (b : Option CalendarPlaces) (c : Calendar) → inside (length d) p ≡ true → BaseIs b d p c → lists_at d (days_place b) p ≡ lists_of c
unfolding BaseIs days_place default_calendar
lists_are d p (Some r) c i h = lists_there i h.lists
lists_are d p None c i h = lists_past d p ∙ rw h

-- lists over those that stand where the base's do
pub over_days : (b : Option CalendarPlaces) (T : DayLists → DayLists) {from : Place} {d : List ℕ} {p : Place} {d' : List ℕ} {q : Place} → from ≡ days_place b → Puts day_lists (T (lists_at d from p)) d p d' q
    → Over day_lists (BaseIs b) (λ c. T (lists_of c)) d p d' q
over_days b T {from} {d} {p} {d'} {q} e x = record { puts = λ c k. by_room c k (inside (length d) p) refl }
  where
    by_room : (c : Calendar) → (inside (length d) p ≡ true → BaseIs b d p c) → (t : Bool) → inside (length d) p ≡ t → Puts day_lists (T (lists_of c)) d p d' q
    by_room c k true i = put_same (ap (λ (m : Place). T (lists_at d m p)) e ∙ ap T (lists_are d p b c i (k i))) x
    by_room c k false i = put_any (T (lists_of c)) i x
