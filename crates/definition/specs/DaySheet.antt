-- The day sheet. Document 01: weekday code, holiday flag, extra flag, list of the date's periods, packed like a record. Assumes nothing.
use Rattle.std.specs.Prelude.{ℕ, Bool, List, eqb}
use Rattle.definition.specs.Base.{some?}
use Rattle.definition.specs.Text.{Text}
use Rattle.definition.specs.Date.{Date, weekday}
use Rattle.definition.specs.Bits.{bytes_of}
use Rattle.definition.specs.Format.{Format, Period, ◌⊗◌, whole, code, flag, periods}
use Rattle.definition.specs.Model.{Calendar}
use Rattle.definition.specs.Calendar.{day_periods}

abbrev pub sheet : Format (ℕ × (Bool × (Bool × List Period)))
sheet = whole (code 0 6 ⊗ flag ⊗ flag ⊗ periods)

unfoldable pub day_sheet : Calendar → Date → Text
day_sheet c d = bytes_of (sheet.put 0 (weekday d, (some? (eqb d) c.holidays, (some? (eqb d) c.extra_days, day_periods c d))))
