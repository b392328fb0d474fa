-- What the answer of a time text means, and the parts of a time. Assumes nothing.
use Rattle.std.specs.Prelude.{ℕ, ◌+◌, ◌*◌, ◌&&◌, nat_le, nat_lt}
use Rattle.std.specs.Prelude.{Option}
use Rattle.definition.specs.Base.{◌>>=◌, ◌or◌, when}
use Rattle.definition.specs.Ascii.{bytes}
use Rattle.definition.specs.Text.{Text, before, after}
use Rattle.definition.specs.Time.{most_time, is_colon}

unfoldable pub time_at : ℕ → ℕ → Option ℕ
time_at h m = when (nat_le h 24 && (nat_lt m 60 && nat_le (h * 60 + m) most_time)) (h * 60 + m)

abbrev pub joined : Option ℕ → Option ℕ → Option ℕ
joined hours minutes = hours >>= λ h. minutes >>= λ m. time_at h m

-- what stands between the first colon and the next, `0` where there is none
abbrev pub minutes_text : Text → Text
minutes_text s = before is_colon (after is_colon s or bytes "0")
