-- The rules of each record, as the check's code tests them. Assumes nothing.
use Rattle.std.specs.Prelude.{◌≡◌, Bool, ◌&&◌, List, ℕ, ltb}
use Rattle.definition.specs.Format.{whole}
use Rattle.bits.specs.declared.Place.{Place}
use Rattle.model.specs.Splits.{Stands}
use Rattle.model.specs.declared.records.Kind.{Kind}
use Rattle.model_check.specs.Kinds.{Item, format_of}

-- what a test of a place answers is told of the record that stands there
abbrev pub Tells : (kind : Kind) → List ℕ → (Item kind → Bool) → (Place → Bool → Type 0) → Type 0
Tells kind s of test = (p : Place) (a : Item kind) (b : Bool) → Stands (whole (format_of kind)) s p a → test p b → b ≡ of a

-- whether two rows are below two counts
abbrev pub rows_below : ℕ × ℕ → ℕ → ℕ → Bool
rows_below rows first second = ltb rows.0 first && ltb rows.1 second
