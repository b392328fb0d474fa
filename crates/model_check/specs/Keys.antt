-- Keys by which records are told apart: a row and a text. A record with no row before the text has 0 for it. Assumes nothing.
use Rattle.std.specs.Prelude.{Bool, ◌&&◌, List, [], ℕ, ◌+◌, ◌*◌, ◌%◌, ◌^◌, eqb}
use Rattle.definition.specs.Base.{same}
use Rattle.definition.specs.Text.{Text}
use Rattle.definition.specs.Format.{field, whole, text}
use Rattle.index.specs.Hash.{hash_of}
use Rattle.bits.specs.declared.Place.{Place}
use Rattle.model.specs.Passes.{Passes}
use Rattle.model.specs.Splits.{Stands}
use Rattle.model.specs.declared.records.Kind.{Kind}
use Rattle.model_check.specs.Kinds.{Item, format_of}
use Rattle.model_check.specs.declared.keys.KeyBytes.{KeyBytes}

abbrev pub Key : Type 0
Key = ℕ × Text

-- as the code holds one
abbrev pub key_of : KeyBytes → Key
key_of k = (k.row, k.name.now)

abbrev pub same_key : Key → Key → Bool
same_key k l = eqb k.0 l.0 && same k.1 l.1

-- what stands for a key past the end of a list
abbrev pub no_key : Key
no_key = (0, [])

-- a hash of 32 bits
unfoldable pub hash_key : Key → ℕ
hash_key k = (k.0 % 2 ^ 32 * 2654435761 + hash_of k.1) % 2 ^ 32

-- a key stands at a place: its row of so many bits, and its text behind it
pub record KeyAt (w : ℕ) (s : List ℕ) (p : Place) (k : Key) : Type 0 where
  pub row : Stands (field w) s p k.0
  pub name : {q : Place} → Passes (field w) s p q → Stands text s q k.1

-- each record begins with its key, whose row has so many bits
pub record Keyed (kind : Kind) (lead : ℕ) (s : List ℕ) (key : Item kind → Key) : Type 0 where
  pub first : {p : Place} {a : Item kind} → Stands (whole (format_of kind)) s p a → KeyAt lead s p (key a)
