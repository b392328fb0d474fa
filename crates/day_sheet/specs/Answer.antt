-- What a call answers: document 01's number, the buffer at the end, and how many bytes of it are the sheet. Assumes nothing.
use Rattle.definition.specs.Answer.{answer_length, answer_number, refusal_number}
use Rattle.std.specs.Prelude.{◌≡◌, List, ℕ, ℤ}
use Rattle.definition.specs.declared.Refusal.{Refusal}
use Rattle.std.specs.Prelude.{Err, Ok, Result}
use Rattle.definition.specs.Text.{Text}
use Rattle.definition.specs.Bits.{bytes_of}
use Rattle.definition.specs.Format.{Period}
use Rattle.definition.specs.DaySheet.{sheet}
use Rattle.definition.specs.Refusal.{Answer, result, left, written, refused, in_room, day_sheet_answer}
use Rattle.bits.specs.declared.Place.{Place}
use Rattle.day_sheet.specs.Days.{Listed, day_value}
use Rattle.day_sheet.specs.declared.Day.{Day}

-- what an answer with a buffer says, and what the definition leaves in so much room
abbrev pub leaves : Result ℕ Refusal → Text → ℕ × Text × ℕ
leaves r out = (answer_number r, out, answer_length r)

abbrev pub left_by : ℕ → Answer → ℕ × Text × ℕ
left_by room a = (result a, left room a, written a)

abbrev pub start : Place
start = record { byte = 0; bit = 0 }

-- the day that the sheet is of, with its periods; or why there is none
abbrev pub Found : Text → ℕ → ℤ → Result Day Refusal → Type 0
Found s row z (Ok r) = (l : List Period) × Listed s r.hours l × ((room : ℕ) → day_sheet_answer s row z room ≡ in_room room (bytes_of (sheet.put 0 (day_value r l))))
Found s row z (Err e) = (room : ℕ) → day_sheet_answer s row z room ≡ refused (refusal_number e)
