-- The texts that stand first in the records of a section, as they are read in a buffer. Assumes nothing: these are definitions.
use Rattle.std.specs.Prelude.{ℕ, List, [], map, false}
use Rattle.definition.specs.Base.{◌or◌, count}
use Rattle.definition.specs.Text.{Text}
use Rattle.definition.specs.Format.{times}
use Rattle.bits.specs.declared.Place.{Place}
use Rattle.model.specs.Answers.{read_at}
use Rattle.model.specs.Parts.{raw, record_of}
use Rattle.model.specs.declared.records.Kind.{Kind}

-- the place of the record of a row
unfoldable pub place_of_row : Kind → List ℕ → Place → ℕ → Place
place_of_row kind d p row = (read_at (times row (record_of false kind)) d p).1

-- the text at its front, and no text where none is read
unfoldable pub text_at : Kind → List ℕ → Place → ℕ → Text
text_at kind d p row = (read_at raw d (place_of_row kind d p row)).0 or []

-- those of so many records
unfoldable pub texts_at : Kind → List ℕ → Place → ℕ → List Text
texts_at kind d p n = map (text_at kind d p) (count 0 n)
