-- The definition's fields with the child's name given by its bytes. For a name that is written out each is the definition's. Assumes nothing.
use Rattle.std.specs.Prelude.{ℕ, ◌≡◌, Bool, [], ℤ, Float}
use Prim.Native.String.{String}
use Rattle.std.proofs.Math.Path.{refl}
use Rattle.std.specs.Prelude.{Option}
use Rattle.definition.specs.Base.{◌>>=◌, ◌or◌}
use Rattle.definition.specs.Ascii.{bytes}
use Rattle.definition.specs.Text.{Text, signed_of, is_yes}
use Rattle.definition.specs.Date.{Date, date_of}
use Rattle.definition.specs.Number.{number_of, found}
use Rattle.definition.specs.declared.Duration.{Duration}
use Rattle.definition.specs.Duration.{duration_of}
use Rattle.definition.specs.Tree.{Element, text_of}
use Rattle.definition.specs.Field.{yes_in, int_in, date_in, number_in, minutes_alone, minutes_in}

abbrev pub yes_said : Element → Text → Bool
yes_said e name = is_yes (text_of e name or [])

abbrev pub whole_said : Element → Text → Option ℤ
whole_said e name = text_of e name >>= signed_of 64

abbrev pub date_said : Element → Text → Option Date
date_said e name = text_of e name >>= date_of

-- a number too long gives none, as a missing one does
abbrev pub number_said : Element → Text → Option Float
number_said e name = text_of e name >>= λ s. found (number_of s)

abbrev pub duration_said : Element → Text → Option Duration
duration_said e name = text_of e name >>= λ s. found (duration_of s)

abbrev pub minutes_said : Element → Text → Option ℕ
minutes_said e name = minutes_alone (duration_said e name)

-- ---- for a name that is written out

module _ (e : Element) (name : String) where
  pub yes_in_lem : yes_said e (bytes name) ≡ yes_in e name
  unfolding yes_in
  yes_in_lem = refl

  pub int_in_lem : whole_said e (bytes name) ≡ int_in e name
  unfolding int_in
  int_in_lem = refl

  pub date_in_lem : date_said e (bytes name) ≡ date_in e name
  unfolding date_in
  date_in_lem = refl

  pub number_in_lem : number_said e (bytes name) ≡ number_in e name
  unfolding number_in
  number_in_lem = refl

  pub minutes_in_lem : minutes_said e (bytes name) ≡ minutes_in e name
  unfolding minutes_in
  minutes_in_lem = refl
