-- Values that may be missing. Assumes nothing.
use mathlib.Core.Path.{◌≡◌, refl}
use Rattle.std.specs.Prelude.{Option, Some, None, unwrap_or}
use Rattle.definition.specs.Base.{◌or◌}

pub or_is : {A : Type 0} (o : Option A) (d : A) → unwrap_or o d ≡ (o or d)
or_is None d = refl
or_is (Some a) d = refl
