-- Times of day. ISO 8601: hours and minutes from 00:00 to 24:00. Document 01, `time_of`: hours to 24, minutes below 60, total to 1440,
-- missing minutes 0; the rest after the second colon is unread. Assumes nothing.
use Rattle.std.specs.Prelude.{ℕ, ◌+◌, ◌*◌, ◌/◌, ◌%◌, Bool, ◌&&◌, [], ◌∷◌, ◌++◌, leb, ltb, eqb}
use Rattle.std.specs.Prelude.{Option}
use Rattle.definition.specs.Base.{◌>>=◌, ◌or◌, when}
use Rattle.definition.specs.Ascii.{bytes}
use Rattle.definition.specs.Text.{Text, trim, before, after, unsigned_of}

-- the minutes of a day
abbrev pub most_time : ℕ
most_time = 1440

abbrev pub is_colon : ℕ → Bool
is_colon = eqb 58

unfoldable pub time_parts : Text → Option ℕ
time_parts s =
    unsigned_of 16 (before is_colon s) >>= λ h.
    unsigned_of 16 (before is_colon (after is_colon s or bytes "0")) >>= λ m.
    when (leb h 24 && (ltb m 60 && leb (h * 60 + m) most_time)) (h * 60 + m)

unfoldable pub time_of : Text → Option ℕ
time_of s = time_parts (trim s)

-- ---- the text of a time

abbrev pub two_digits : ℕ → Text
two_digits n = (n / 10 + 48) ∷ (n % 10 + 48) ∷ []

unfoldable pub time_text : ℕ → Text
time_text t = two_digits (t / 60) ++ (bytes ":" ++ (two_digits (t % 60) ++ bytes ":00"))
