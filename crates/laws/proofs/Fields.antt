-- The formats of dates keep the promises of Formats. Assumes nothing.
use Rattle.std.proofs.Math.Path.{refl}
use Rattle.std.proofs.Common.{ap, ◌∙◌}
use Rattle.std.proofs.Math.Dec.{ltb}
use Rattle.definition.specs.Bits.{twos, signed}
use Rattle.definition.specs.Date.{day_number}
use Rattle.definition.specs.Format.{date, dates}
use Rattle.laws.specs.Formats.{Good, good_field, good_via, Rising, good_list}
use Rattle.laws.specs.Fields.{twos_fits, signed_twos, twos_signed, InYears, days_day, day_days, day_fits}

-- ---- dates

pub good_date : Good date InYears
unfolding date
good_date =
    good_via
    (record {
      fits = λ d h. twos_fits 32 refl (day_number d) (day_fits d h);
      there = λ d h. rw (signed_twos 32 refl (day_number d) (day_fits d h)) (days_day d h);
      back = λ v d h e. let (p, q) = day_days (signed 32 v) d e in (ap (twos 32) p ∙ (twos_signed 32 refl v h).0, q);
    })
    (good_field 32)

pub good_dates : Good dates (Rising ltb InYears)
unfolding dates
good_dates = good_list ltb good_date
