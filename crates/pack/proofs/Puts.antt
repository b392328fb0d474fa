-- Laws of what is put: values that may be missing, dates, constraints. Assumes nothing.
use Prim.Native.Nat.{ℕ}
use mathlib.Core.Path.{◌≡◌, refl, sym}
use mathlib.Core.Bool.{true, false}
use mathlib.Core.List.{List}
use Rattle.std.specs.Prelude.{Option, Some, None}
use lib.IntN.{negsuc}
use Rattle.std.specs.Option.{unwrap_or}
use Rattle.definition.specs.Base.{◌or◌}
use Rattle.definition.specs.Answer.{date_meaning, day_number_of}
use Rattle.definition.specs.Date as D
use Rattle.definition.specs.Date.{day_number}
use Rattle.definition.specs.Format.{Format, optional, flag}
use Rattle.definition.specs.declared.Date.{Date}
use Rattle.bits.specs.Steps.{Puts, put_same, put_via, put_alone, put_both}
use Rattle.bits.specs.declared.Place.{Place}

-- ---- values that may be missing

module _ {d : List ℕ} {p : Place} {d' : List ℕ} {q : Place} where
  pub put_missing : {A : Type 0} (f : Format A) {o : Option A} → o ≡ None → Puts flag false d p d' q → Puts (optional f) o d p d' q
  unfolding optional
  put_missing f e x = put_same {f = optional f} (sym e) (put_via _ _ (put_alone _ f x))

  pub put_given_lem : {A : Type 0} {f : Format A} {a : A} {o : Option A} {d'' : List ℕ} {r : Place} → o ≡ Some a → Puts flag true d p d' q → Puts f a d' q d'' r → Puts (optional f) o d p d'' r
  unfolding optional
  put_given_lem {f = f} e x y = put_same {f = optional f} (sym e) (put_via _ _ (put_both _ x y))

-- ---- dates

pub day_or : (a : Option Date) (o : Option D.Date) → date_meaning a ≡ day_number_of o → (unwrap_or a (record { 0 = negsuc 4371952 })).0 ≡ day_number (o or 0)
unfolding date_meaning day_number_of day_number
day_or None None h = refl
day_or None (Some d) h = cc
day_or (Some x) None h = cc
day_or (Some x) (Some d) h = cc
