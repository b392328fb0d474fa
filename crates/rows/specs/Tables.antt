-- Rows by their UIDs, from tables in lent words. Assumes nothing: these are definitions.
use Rattle.std.specs.Prelude.{if◌then◌else◌, ◌≡◌, ℕ, ◌%◌, ◌^◌, ◌<◌, ◌≤◌, max, List, [], length, nat_lt, slice_index, slice_index_or}
use Rattle.std.specs.Prelude.{Option, Some, None}
use Rattle.definition.specs.Ascii.{bytes}
use Rattle.definition.specs.Base.{◌>>=◌, ◌or◌, find, find_last, same}
use Rattle.definition.specs.Text.{Text}
use Rattle.definition.specs.Tree.{Element, nothing}
use Rattle.definition.specs.Field.{text_in}
use Rattle.definition.specs.Task.{kept_tasks, row_of}
use Rattle.definition.specs.Resource.{work_resources, cost_resources}
use Rattle.index.specs.declared.Table.{Table}
use Rattle.index.specs.Hash.{hash_of}
use Rattle.index.specs.Chains.{table_of, chain_of, place_of}
use Rattle.index.specs.Frame.{Outside}
use Rattle.index.specs.Law.{Fits, Indexed}
use Rattle.tree.specs.Place.{element_at, Past}
use Rattle.rows.specs.Rows.{has_uid}
use Rattle.rows.specs.Walks.{is_work, is_cost_resource, kept_left, KeptOf, picked_by}
use Rattle.rows.specs.declared.table.Listed.{Listed}
use Rattle.rows.specs.declared.table.Rest.{Rest}
use Rattle.rows.specs.declared.table.ListElements.{ListElements}

-- the elements of a list
abbrev pub listed : Listed → Element → List Element
listed Listed.Tasks root = kept_tasks root
listed Listed.Work root = work_resources root
listed Listed.Cost root = cost_resources root

abbrev pub uid_of : Element → Text
uid_of e = text_in e "UID" or []

-- the row of the last of them with a UID, as 32 bits hold it
abbrev pub row_in32 : Listed → Element → Text → Option ℕ
row_in32 l root u = row_of (listed l root) u >>= λ n. Some (n % 2 ^ 32)

-- the first row of the chain of a UID whose element has it
abbrev pub sought_in : Text → List ℕ → Table → Text → Option ℕ
sought_in s w t u = find (λ r. same (uid_of (element_at s (place_of w t r))) u) (chain_of w t (hash_of u))

-- the row of the last of them with a UID, as words say it where there is a table
unfoldable pub row_in : Text → Element → Listed → List ℕ → Option Table → Text → Option ℕ
row_in s root l w None u = row_in32 l root u
row_in s root l w (Some t) u = sought_in s w t u

-- the last cost resource with a UID, as words say it where there is a table
unfoldable pub cost_in : Text → Element → List ℕ → Option Table → Text → Option Element
cost_in s root w None u = find_last (has_uid u) (cost_resources root)
cost_in s root w (Some t) u = sought_in s w t u >>= λ r. Some (element_at s (place_of w t r))

-- the element of a row
abbrev pub found_in : Text → List ℕ → Table → Option ℕ → Option Element
found_in s w t o = o >>= λ r. Some (element_at s (place_of w t r))

-- ---- the walk over a list

-- what is left of a list
abbrev pub rest_of : Rest → List Element
rest_of (Rest.Tasks k) = kept_left k
rest_of (Rest.Work o) = picked_by (bytes "Resource") is_work o
rest_of (Rest.Cost o) = picked_by (bytes "Resource") is_cost_resource o

-- it is of a tree
abbrev pub RestOf : Rest → Text → Type 0
RestOf (Rest.Tasks k) s = KeptOf k s
RestOf (Rest.Work o) s = Past s 0 o
RestOf (Rest.Cost o) s = Past s 0 o

abbrev pub elements_left : ListElements → List Element
elements_left e = rest_of e.rest

-- of a tree
abbrev pub ElementsOf : ListElements → Text → Type 0
ElementsOf e s = RestOf e.rest s

-- ---- the table of a list

-- no element at all
abbrev pub no_element : Element
no_element = record { name = []; text = []; below = nothing }

abbrev pub nth : Listed → Element → ℕ → Element
nth l root r = slice_index_or (listed l root) r no_element

abbrev pub hash_in : Listed → Element → ℕ → ℕ
hash_in l root r = hash_of (uid_of (nth l root r))

-- where there is room for it, for one row at least, and 32 bits hold each position in the tree
abbrev pub made_for : Text → Element → Listed → ℕ → ℕ → Option Table
made_for s root l len at = if nat_lt (length s) (2 ^ 32) then table_of len at (max 1 (length (listed l root))) else None

-- what a table needs that is to be filled
pub record Ripe (s : Text) (root : Element) (l : Listed) (t : Table) (w : List ℕ) : Type 0 where
  pub short : length s < 2 ^ 32
  pub small : length (listed l root) < 2 ^ 32
  pub rows : length (listed l root) ≤ t.rows
  pub fits : Fits t (length w)

-- the words of the table: each row's UID by its hash, and where its element stands; the words outside stay
pub record Tabled (s : Text) (root : Element) (l : Listed) (t : Table) (w w' : List ℕ) : Type 0 where
  pub places : ℕ → ℕ
  pub indexed : Indexed t (hash_in l root) places (length (listed l root)) w'
  pub stands : (r : ℕ) → r < length (listed l root) → element_at s (places r) ≡ nth l root r
  pub small : length (listed l root) < 2 ^ 32
  pub length_same : length w' ≡ length w
  pub outside : (j : ℕ) → Outside t j → slice_index w' j ≡ slice_index w j

abbrev pub TabledIn : Text → Element → Listed → Option Table → List ℕ → List ℕ → Type 0
TabledIn s root l None w w' = w' ≡ w
TabledIn s root l (Some t) w w' = Tabled s root l t w w'

pub record Makes (s : Text) (root : Element) (l : Listed) (at : ℕ) (w w' : List ℕ) (m : Option Table) : Type 0 where
  pub made : m ≡ made_for s root l (length w) at
  pub words : TabledIn s root l m w w'
