-- What an element says in a child: a text, a yes, a whole number, a number, a date, a duration. MSPDI's fields are such children. What is
-- missing or cannot be read is absent. Assumes nothing.
use Rattle.std.specs.Prelude.{ℕ, min, max, Bool, false, not, [], ℤ, pos, negsuc, Float}
use Rattle.std.specs.Prelude.{Option, Some, None}
use Prim.Native.String.{String}
use Rattle.definition.specs.Base.{◌>>=◌, ◌or◌}
use Rattle.definition.specs.Ascii.{bytes}
use Rattle.definition.specs.Text.{Text, signed_of, is_yes}
use Rattle.definition.specs.Date.{Date, date_of}
use Rattle.definition.specs.Number.{number_of, found}
use Rattle.definition.specs.declared.Duration.{Duration}
use Rattle.definition.specs.Duration.{duration_of}
use Rattle.definition.specs.Tree.{Element, text_of}

abbrev pub text_in : Element → String → Option Text
text_in e name = text_of e (bytes name)

unfoldable pub yes_in : Element → String → Bool
yes_in e name = is_yes (text_in e name or [])

unfoldable pub int_in : Element → String → Option ℤ
int_in e name = text_in e name >>= signed_of 64

unfoldable pub number_in : Element → String → Option Float
number_in e name = text_in e name >>= λ s. found (number_of s)

unfoldable pub date_in : Element → String → Option Date
date_in e name = text_in e name >>= date_of

abbrev pub duration_in : Element → String → Option Duration
duration_in e name = text_in e name >>= λ s. found (duration_of s)

-- for what asks for the minutes and not whether they were whole
abbrev pub minutes_alone : Option Duration → Option ℕ
minutes_alone o = o >>= λ d. Some d.minutes

-- there are minutes, and the sum was not whole
abbrev pub not_whole : Option Duration → Bool
not_whole None = false
not_whole (Some d) = not d.whole

unfoldable pub minutes_in : Element → String → Option ℕ
minutes_in e name = minutes_alone (duration_in e name)

-- a whole number held to lo to hi
abbrev pub held : ℕ → ℕ → ℤ → ℕ
held lo hi (pos n) = max lo (min n hi)
held lo hi (negsuc n) = lo
