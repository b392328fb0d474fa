-- What is looked up by a text that may be missing. Assumes nothing.
use Rattle.std.proofs.Common.{◌≡◌}
use Rattle.std.specs.Prelude.{Option, Some, None}
use Rattle.std.specs.Option.{option_map}
use Rattle.definition.specs.Base.{◌>>=◌}
use Rattle.definition.specs.Text.{Text}

module _ {B R : Type 0} (view : R → Text) {r : Option R} {o : Option Text} (e : option_map view r ≡ o) (f : Text → Option B) where
  pub look_not : r ≡ None → None ≡ (o >>= f)
  look_not i = rw (← e, i)

  pub look_up : {t : R} {m : Option B} → r ≡ Some t → m ≡ f (view t) → m ≡ (o >>= f)
  look_up i h = rw (← e, i) h
