-- The numbers of a run that pass a test, and the first of them. Assumes nothing: these are definitions.
use Rattle.std.specs.Prelude.{ℕ, suc, ◌-◌, ◌≤◌, ◌<◌, ◌≡◌, Bool, true, false, List}
use Rattle.std.specs.Prelude.{Option}
use Rattle.definition.specs.Base.{◌or◌, keep, count}

-- those from a number on to the last
abbrev pub from_on : (ℕ → Bool) → ℕ → ℕ → List ℕ
from_on p last at = keep p (count at (suc last - at))

-- x is the first of them; or there is none, and x lies past the last
pub record FirstFit (p : ℕ → Bool) (last at x : ℕ) : Type 0 where
  pub on : x ≤ last → at ≤ x
  pub before : (d : ℕ) → at ≤ d → d < x → d ≤ last → p d ≡ false
  pub hit : x ≤ last → p x ≡ true

-- the first of them, or one past the last; none where there is none
abbrev pub FirstFound : (ℕ → Bool) → ℕ → ℕ → Option ℕ → Type 0
FirstFound p last at x = FirstFit p last at (x or suc last)
