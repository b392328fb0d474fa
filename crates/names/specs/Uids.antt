-- Calendars by their UIDs, as words say it. Assumes nothing: these are definitions.
use Rattle.std.specs.Prelude.{if◌then◌else◌, ℕ, suc, ◌+◌, ◌-◌, ◌*◌, ◌^◌, ◌≤◌, ◌<◌, max, ◌≡◌, ◌&&◌, List, leb, ltb, length, get_or}
use Rattle.std.specs.Prelude.{Option, Some, None}
use Rattle.definition.specs.Base.{◌>>=◌}
use Rattle.definition.specs.Refusal.{most_elements}
use Rattle.definition.specs.Text.{Text}
use Rattle.definition.specs.Tree.{Element}
use Rattle.index.specs.declared.Table.{Table}
use Rattle.index.specs.Hash.{hash_of}
use Rattle.index.specs.Chains.{table_of, place_of, end_of}
use Rattle.index.specs.Law.{Indexed}
use Rattle.rows.specs.Rows.{in_order, with_uid_in}
use Rattle.rows.specs.Tables.{uid_of, sought_in, no_element}
use Rattle.tree.specs.Place.{element_at}
use Rattle.names.specs.declared.uids.CalendarTable.{CalendarTable}

-- ---- a table of all calendars

abbrev pub how_many : Element → ℕ
how_many root = length (in_order root)

-- as many rows, and one at least
abbrev pub rows_for : Element → ℕ
rows_for root = max 1 (how_many root)

-- where there is room for it and the words behind it, and 32 bits hold each position in the tree
abbrev pub made_in : Text → Element → ℕ → ℕ → Option Table
made_in s root len at =
    if ltb (length s) (2 ^ 32) && leb (how_many root) most_elements then table_of (len - suc (rows_for root)) at (rows_for root) else None

-- the calendar of a row: the last one first
abbrev pub of_row : Element → ℕ → Element
of_row root r = get_or (in_order root) (how_many root - suc r) no_element

-- where the words behind it end, one for each row and one more
abbrev pub names_end : Table → ℕ
names_end t = t.at + (4 * t.rows + 1)

-- the words outside from and to stay
pub record Stays (from to : ℕ) (w w' : List ℕ) : Type 0 where
  pub long : length w' ≡ length w
  pub outside : (j : ℕ) → (from ≤ j → j < to → ⊥) → get_or w' j 0 ≡ get_or w j 0

-- each UID by its hash, and where its element stands
pub record Uids (s : Text) (root : Element) (t : Table) (w : List ℕ) : Type 0 where
  pub rows : t.rows ≡ rows_for root
  pub room : names_end t ≤ length w
  pub indexed : Indexed t (λ r. hash_of (uid_of (of_row root r))) (place_of w t) (how_many root) w
  pub stands : (r : ℕ) → r < how_many root → element_at s (place_of w t r) ≡ of_row root r

abbrev pub UidsIn : Text → Element → Option Table → List ℕ → List ℕ → Type 0
UidsIn s root None w w' = w' ≡ w
UidsIn s root (Some t) w w' = Uids s root t w' × Stays t.at (names_end t) w w'

-- where the words behind a table begin, from a place on
abbrev pub end_from : ℕ → Option Table → ℕ
end_from at None = at
end_from at (Some t) = names_end t

pub record MakesUids (s : Text) (root : Element) (at : ℕ) (w w' : List ℕ) (r : CalendarTable) : Type 0 where
  pub made : r.table ≡ made_in s root (length w) at
  pub end : r.end ≡ end_from at r.table
  pub words : UidsIn s root r.table w w'

-- ---- a calendar by it

-- its row in the order in which they are built, and its element
abbrev pub row_found : Text → List ℕ → Table → ℕ → Option (ℕ × Element)
row_found s w t r = Some (t.rows - suc r, element_at s (place_of w t r))

-- the first with a UID, as words say it where there is a table
unfoldable pub calendar_by : Text → Element → List ℕ → Option Table → Text → Option (ℕ × Element)
calendar_by s root w None u = with_uid_in root u
calendar_by s root w (Some t) u = sought_in s w t u >>= row_found s w t

-- ---- while it is made

-- what a table needs that is to be filled
pub record Ripe (s : Text) (root : Element) (t : Table) (len : ℕ) : Type 0 where
  pub short : length s < 2 ^ 32
  pub rows : t.rows ≡ rows_for root
  pub some : 0 < t.rows
  pub room : names_end t ≤ len

-- each row from `left` on stands in its place
pub record Stand (s : Text) (root : Element) (t : Table) (left : ℕ) (w : List ℕ) : Type 0 where
  pub stands : (r : ℕ) → left ≤ r → r < how_many root → element_at s (place_of w t r) ≡ of_row root r

-- the first n rows are in their chains, the others in their places as before
pub record Chained (s : Text) (t : Table) (n : ℕ) (w w' : List ℕ) : Type 0 where
  pub indexed : Indexed t (λ r. hash_of (uid_of (element_at s (place_of w t r)))) (place_of w t) n w'
  pub ahead : (r : ℕ) → n ≤ r → r < t.rows → place_of w' t r ≡ place_of w t r
  pub stays : Stays t.at (end_of t) w w'
