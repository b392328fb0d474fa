-- From positions in the bytes of a tree to the definition's records and elements. Assumes nothing: these are definitions.
use Rattle.std.specs.Prelude.{if◌then◌else◌, ℕ, ◌≤◌, ◌<◌, ◌+◌, ◌*◌, ◌≡◌, List, [], ◌∷◌, length, get_or, drop, leb}
use Rattle.std.specs.Prelude.{Option, Some, None}
use Rattle.definition.specs.Base.{keep, same}
use Rattle.definition.specs.Text.{Text}
use Rattle.definition.specs.Tree.{Rec, head_bytes, records, layout, Forest, nothing, elements, level, element, all}
use Rattle.definition.specs.Tree as D
use Rattle.tree.specs.declared.Head.{Head}
use Rattle.tree.specs.declared.element.Element.{Element}
use Rattle.tree.specs.declared.element.Children.{Children}

-- ---- heads

-- r is the number of two bytes, the first the more significant
pub record IsWord (s : Text) (i r : ℕ) : Type 0 where
  pub is : r ≡ get_or s i 0 * 256 + get_or s (i + 1) 0
  pub first : get_or s i 0 < 256
  pub second : get_or s (i + 1) 0 < 256

-- the layout, and how many records there are
unfoldable pub verdict : Text → Option ℕ
verdict s = if layout s then Some (length (records s)) else None

-- ---- records

-- the records from a position on
abbrev pub records_at : Text → ℕ → List Rec
records_at s at = records (drop at s)

-- the record that a head is of
abbrev pub record_by : Head → Rec
record_by h = record { depth = h.depth; name = h.name.now; text = h.text.now }

-- h is of the first of the records from a position on, and tells where the next one begins
pub record IsHead (s : Text) (at : ℕ) (h : Head) : Type 0 where
  pub deep : h.depth < 128
  pub ends : h.next ≡ at + head_bytes + length h.name.now + length h.text.now
  pub inside : h.next ≤ length s
  pub here : records_at s at ≡ record_by h ∷ records_at s h.next

-- the records at the front that are deeper than d, and those that follow them
unfoldable pub under : ℕ → List Rec → List Rec
under d [] = []
under d (r ∷ rs) = if leb r.depth d then [] else r ∷ under d rs

unfoldable pub after : ℕ → List Rec → List Rec
after d [] = []
after d (r ∷ rs) = if leb r.depth d then r ∷ rs else after d rs

-- ---- elements

-- the element whose record stands at a position
abbrev pub element_at : Text → ℕ → D.Element
element_at s at = element (records_at s at)

-- the element that a place in a tree stands for
abbrev pub meaning : Element → D.Element
meaning e = element_at e.tree.now e.at

-- the elements of a name in a row
abbrev pub named : Text → Forest → List D.Element
named n f = keep (λ (c : D.Element). same c.name n) (elements f)

-- the row of siblings that follow the first element
unfoldable pub siblings : List Rec → Forest
siblings [] = nothing
siblings (r ∷ rs) = level r.depth rs

-- the siblings of a name that follow the element at a position
abbrev pub later_at : Text → Text → ℕ → List D.Element
later_at s n at = named n (siblings (records_at s at))

-- the siblings of a name that follow an element
abbrev pub later : Text → Element → List D.Element
later n e = later_at e.tree.now n e.at

-- the elements of a name that an answer stands for: none, or an element and its later siblings
unfoldable pub list_of : Text → Option Element → List D.Element
list_of n None = []
list_of n (Some e) = meaning e ∷ later n e

-- what is found is of the same tree, and stands in its bytes, at a position or after it
pub record Within (s : Text) (from : ℕ) (e : Element) : Type 0 where
  pub tree : e.tree.now ≡ s
  pub after : from ≤ e.at
  pub inside : e.at < length s

unfoldable pub Past : Text → ℕ → Option Element → Type 0
Past s from None = Unit
Past s from (Some e) = Within s from e

-- r is where the list of elements l starts, at `from` or after it
pub record Starts (s n : Text) (l : List D.Element) (from : ℕ) (r : Option Element) : Type 0 where
  pub is : l ≡ list_of n r
  pub on : Past s from r

-- the children of a name behind the last one given, all where none was
unfoldable pub behind : Text → D.Element → Option Element → List D.Element
behind n el None = all el n
behind n el (Some e) = later n e

-- the elements that are left to an iterator over children
abbrev pub left : Children → List D.Element
left c = behind c.name.now (meaning c.parent) c.last
