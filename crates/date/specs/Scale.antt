-- A day number on the scale that the definitions count in: days from 1 January of the year -10000. Assumes nothing.
use Rattle.std.specs.Prelude.{◌≡◌, ℕ, ◌<◌, ◌^◌, min, ℤ, pos, negsuc, ◌-ℤ◌}
use Rattle.std.proofs.Common.{arith, ap, ◌∙◌}
use Rattle.std.proofs.Math.Nat.{min-eq_left}
use Rattle.std.proofs.Math.IntN
use Rattle.definition.specs.Date.{Date, epoch, day_number}
use Rattle.date.specs.Answer.{upward, days_between}

-- 0 before that day
unfoldable pub day_count : ℤ → Date
day_count z = days_between (negsuc 4371952) z

pub count_of_number : (d : Date) → day_count (day_number d) ≡ d
unfolding day_count days_between day_number
count_of_number d = ap upward (IntN.-ℤ-+ℤ_cancel (pos d) (pos epoch))

-- a number of days below 2 ^ 31
pub at_most_lem : {n : ℕ} {z : ℤ} → z ≡ pos (min n 2147483647) -ℤ pos 4371953 → n < 2 ^ 31 → z ≡ pos n -ℤ pos 4371953
at_most_lem e h = e ∙ ap (λ (k : ℕ). pos k -ℤ pos 4371953) (min-eq_left (omega (arith, h)))
