-- The hours of a working time. Assumes nothing.
use Rattle.std.specs.Prelude.{if◌then◌else◌, ◌≡◌, ℕ, ◌==◌, nat_lt, refl}
use Rattle.std.specs.Prelude.{Option}
use Rattle.definition.specs.Base.{◌>>=◌, when}
use Rattle.definition.specs.Ascii.{bytes}
use Rattle.definition.specs.Format.{Period}
use Rattle.definition.specs.Time.{time_of}
use Rattle.definition.specs.Text.{Text}
use Rattle.definition.specs.Tree.{Element, text_of}
use Rattle.definition.specs.Calendar.{working_time}

-- the time in a child whose name is given by its bytes
abbrev pub time_said : Element → Text → Option ℕ
time_said e name = text_of e name >>= time_of

-- from the times of a day; 00:00 at the end means 1440
abbrev pub time_by : Option ℕ → Option ℕ → Option Period
time_by from until =
    from >>= λ f. until >>= λ u.
    let to = if u == 0 then 1440 else u in
    when (nat_lt f to) (f, to)

pub working_time_lem : (t : Element) → time_by (time_said t (bytes "FromTime")) (time_said t (bytes "ToTime")) ≡ working_time t
unfolding working_time
working_time_lem t = refl
