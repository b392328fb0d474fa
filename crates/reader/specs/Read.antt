-- What a reader reads, and the reader behind it. Assumes nothing.
use Rattle.std.specs.Prelude.{◌≡◌, ℕ, List}
use Rattle.std.specs.Borrow.{Bor}
use Rattle.bits.specs.declared.Field.{Field}
use Rattle.bits.specs.declared.Place.{Place}
use Rattle.bits.specs.Reads.{taken_at}
use Rattle.reader.specs.declared.Reader.{Reader}

-- the reader at the first bit
abbrev pub first : Bor (List ℕ) → Reader
first s = record { model = s; place = record { byte = 0; bit = 0 } }

-- the reader at another place
abbrev pub moved : Reader → Place → Reader
moved r p = record { model = r.model; place = p }

-- a reader over the same model, at a place of which φ holds
abbrev pub moved_by : (List ℕ → Place → Place → Type 0) → Reader → Reader → Type 0
moved_by φ r q = (q ≡ moved r q.place) × φ r.model.now r.place q.place

-- a field, and the reader behind it
abbrev pub taken : Reader → Field ℕ Place → Field ℕ Reader
taken r f = record { value = f.value; next = moved r f.next }

-- that of w bits
abbrev pub took : Reader → ℕ → Field ℕ Reader
took r w = taken r (taken_at r.model.now r.place w)
