-- A missing text is read as the empty one is. Assumes nothing.
use Rattle.std.proofs.Common.{◌≡◌, [], refl, ap, ◌∙◌}
use Rattle.std.specs.Prelude.{None}
use Rattle.definition.specs.Base.{◌or◌}
use Rattle.definition.specs.Text.{Text, trim, trim_front, trim_back, strip, before, after, sign_of, digits, unsigned_of}
use Rattle.definition.specs.Time.{time_of, time_parts}
use Rattle.definition.specs.Tree.{Element, text_of}
use Rattle.definition.specs.Field.{text_in}
use Rattle.definition.specs.Calendar.{day_type}
use Rattle.laws.specs.Options.{bind_or}
use Rattle.calendar.specs.Hours.{time_said}

no_time : time_of [] ≡ None
unfolding time_of time_parts trim trim_front trim_back strip before after unsigned_of sign_of digits
no_time = refl

no_type : unsigned_of 64 [] ≡ None
unfolding unsigned_of sign_of digits
no_type = refl

pub time_or : (x : Element) (name t : Text) → t ≡ (text_of x name or []) → time_of t ≡ time_said x name
time_or x name t e = ap time_of e ∙ bind_or time_of no_time (text_of x name)

pub type_or : (w : Element) (t : Text) → t ≡ (text_in w "DayType" or []) → unsigned_of 64 t ≡ day_type w
unfolding day_type
type_or w t e = ap (unsigned_of 64) e ∙ bind_or (unsigned_of 64) no_type (text_in w "DayType")
