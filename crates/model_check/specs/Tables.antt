-- Keys in tables of words: each row's key by its hash, and the byte at which its record stands. Assumes nothing.
use Rattle.std.specs.Prelude.{◌≡◌, List, map, ℕ, ◌%◌, ◌^◌, ◌<◌, length, get_or}
use Rattle.std.specs.Prelude.{None, Option, Some}
use Rattle.definition.specs.Model.{Calendar, Model}
use Rattle.index.specs.declared.Table.{Table}
use Rattle.index.specs.Chains.{added}
use Rattle.index.specs.Law.{Indexed}
use Rattle.index.specs.Frame.{SameIn, Apart}
use Rattle.bits.specs.declared.Place.{Place}
use Rattle.model.specs.Sections.{byte_at}
use Rattle.model_check.specs.Keys.{Key, no_key, hash_key, KeyAt}

-- the first n of a section's keys, in a table with a row for each of all
pub record KeysIn (lead : ℕ) (s : List ℕ) (ks : List Key) (t : Table) (n : ℕ) (w : List ℕ) : Type 0 where
  pub places : ℕ → ℕ
  pub indexed : Indexed t (λ r. hash_key (get_or ks r no_key)) places n w
  pub full : t.rows ≡ length ks
  pub stands : (r : ℕ) → r < n → KeyAt lead s (byte_at (places r)) (get_or ks r no_key)

abbrev pub KeyTable : ℕ → List ℕ → List Key → Table → List ℕ → Type 0
KeyTable lead s ks t w = KeysIn lead s ks t (length ks) w

-- where there is a table
abbrev pub TableFor : ℕ → List ℕ → List Key → Option Table → List ℕ → Type 0
TableFor lead s ks None w = Unit
TableFor lead s ks (Some t) w = KeyTable lead s ks t w

-- no rows yet
abbrev pub Emptied : Table → List ℕ → Type 0
Emptied t w = (f g : ℕ → ℕ) → Indexed t f g 0 w

-- a row is put into a table, by the key of the record at a place, if there is one
abbrev pub Put : ℕ → List ℕ → Place → ℕ → Table → List ℕ → List ℕ → Type 0
Put lead s p row t w w' = (h : ℕ) × ((k : Key) → KeyAt lead s p k → h ≡ hash_key k) × (w' ≡ added w t row h (p.byte % 2 ^ 32))

-- a table with no rows yet, from a place on: tables that it has no word in common with stay, and 32 bits hold each position in the model
pub record EmptyTable (s : List ℕ) (at rows : ℕ) (w w' : List ℕ) (t : Table) : Type 0 where
  pub small : length s < 2 ^ 32
  pub is : t ≡ record { at = at; rows = rows }
  pub empty : Emptied t w'
  pub stays : (u : Table) → Apart u t → SameIn u w w'

pub record EmptyAt (s : List ℕ) (at rows : ℕ) (w w' : List ℕ) (r : Option Table) : Type 0 where
  pub ready : (t : Table) → r ≡ Some t → EmptyTable s at rows w w' t
  pub none : r ≡ None → w' ≡ w

-- the names of a model's calendars
abbrev pub NamesIn : List ℕ → Model → Option Table → List ℕ → Type 0
NamesIn s m made w = TableFor 0 s (map (λ (c : Calendar). (0, c.name)) m.calendars) made w
