-- The counts of a model's sections with the place behind them, the places at which the sections begin with the one behind the last, and the sections. Assumes nothing.
use Rattle.std.specs.Prelude.{ℕ}
use Rattle.bits.specs.declared.Field.{Field}
use Rattle.bits.specs.declared.Place.{Place}
use Rattle.definition.specs.declared.PerKind.{PerKind}
use Rattle.model.specs.declared.Section.{Section}

abbrev pub Counts : Type 0
Counts = Field (PerKind ℕ) Place

abbrev pub Places : Type 0
Places = Field (PerKind Place) Place

abbrev pub Sections : Type 0
Sections = PerKind Section
