-- The lists in the work slice, and the steps of the walk over them. The four words of a row: 0 its parent (0 where it has none), 1 its first
-- child, 2 the next row with its parent; word 3 of row 0 is the first row at the top. Assumes nothing.
use Rattle.std.specs.Prelude.{if◌then◌else◌, ℕ, zero, suc, ◌+◌, ◌-◌, ◌*◌, ◌≤◌, ◌<◌, ◌≡◌, Bool, List, [], length, get_or, set, take, eqb, ltb}
use Rattle.std.specs.Prelude.{Option, Some, None}
use Rattle.definition.specs.Base.{◌or_else◌, keep, first, count}
use Rattle.definition.specs.Outline.{parent_in, is_top, is_under, parent_at, outline_of}
use Rattle.definition.specs.Refusal.{Answer, refused, gives, row_words}
use Rattle.outline.specs.declared.Visit.{Visit}
use Rattle.outline.specs.Words.{no_row, outline_words}

-- ---- the lists

abbrev pub word_of : Option ℕ → ℕ
word_of None = no_row
word_of (Some r) = r

-- the row, and the word of it, where the list of a parent's children begins; of those with no parent in row 0
abbrev pub home_of : Option ℕ → ℕ
home_of None = 0
home_of (Some p) = p

abbrev pub slot_of : Option ℕ → ℕ
slot_of None = 3
slot_of (Some p) = 1

-- whether a parent is the given one
abbrev pub same_parent : Option ℕ → Option ℕ → Bool
same_parent None o = is_top o
same_parent (Some p) o = is_under p o

-- the rows from a row on that have a given parent, or none
unfoldable pub siblings : List (Option ℕ) → Option ℕ → ℕ → List ℕ
siblings ps o a = keep (λ c. same_parent o (parent_at ps c)) (count a (length ps - a))

-- the rows after a row that have its parent
abbrev pub later : List (Option ℕ) → ℕ → List ℕ
later ps r = siblings ps (parent_at ps r) (suc r)

-- the words where the rows from i on are in their lists, and those before it still name their parents
pub record Links (ps : List (Option ℕ)) (i : ℕ) (w : List ℕ) : Type 0 where
  pub named : (r : ℕ) → r < i → parent_in (length ps) r (Some (get_or w (4 * r + 0) 0)) ≡ parent_at ps r
  pub home : (r : ℕ) → i ≤ r → r < length ps → get_or w (4 * r + 0) 0 ≡ home_of (parent_at ps r)
  pub next : (r : ℕ) → i ≤ r → r < length ps → get_or w (4 * r + 2) 0 ≡ word_of (first (later ps r))
  pub head : (o : Option ℕ) → home_of o < length ps → get_or w (4 * home_of o + slot_of o) 0 ≡ word_of (first (siblings ps o i))

-- row i in front of the list that begins at a word of row p
unfoldable pub pushed : List ℕ → ℕ → ℕ → ℕ → List ℕ
pushed w i p s = set (set (set w (4 * i + 0) p) (4 * i + 2) (get_or (set w (4 * i + 0) p) (4 * p + s) 0)) (4 * p + s) i

-- row i of n in its list
unfoldable pub link_of : ℕ → ℕ → List ℕ → List ℕ
link_of n i w =
    let o = parent_in n i (Some (get_or w (4 * i + 0) 0)) in
    pushed w i (home_of o) (slot_of o)

-- the lists of the first n rows empty, and nothing else changed
pub record Empty (n : ℕ) (w w' : List ℕ) : Type 0 where
  pub long : length w' ≡ length w
  pub parents : (r : ℕ) → get_or w' (4 * r + 0) 0 ≡ get_or w (4 * r + 0) 0
  pub child : (r : ℕ) → r < n → get_or w' (4 * r + 1) 0 ≡ no_row
  pub top : 0 < n → get_or w' (4 * 0 + 3) 0 ≡ no_row

pub record Linked (n : ℕ) (w w' : List ℕ) : Type 0 where
  pub long : length w' ≡ length w
  pub links : (ps : List (Option ℕ)) → n ≡ length ps → Links ps n w → Links ps 0 w'

-- ---- the walk: the row that stands next, if any, and how many rows it is below

-- the row that a word names, at a depth
abbrev pub visit_of : ℕ → ℕ → Option Visit
visit_of x d = if eqb x no_row then None else Some (record { row = x; depth = d })

-- the next with its parent, or with its parent's parent, and so on up
unfoldable pub climb_of : List ℕ → ℕ → ℕ → Option Visit
climb_of w zero r = visit_of (get_or w (4 * r + 2) 0) 0
climb_of w (suc d) r = visit_of (get_or w (4 * r + 2) 0) (suc d) or_else climb_of w d (get_or w (4 * r + 0) 0)

-- its first child, if that is not too deep for n rows
unfoldable pub step_of : ℕ → List ℕ → ℕ → ℕ → Option Visit
step_of n w r d = if ltb (d + 1) n then visit_of (get_or w (4 * r + 1) 0) (d + 1) or_else climb_of w d r else climb_of w d r

-- rows in front of the slice, where the work has the lists of some parents
pub record Walked (n : ℕ) (rows work rows' : List ℕ) (r : ℕ) : Type 0 where
  pub few : r ≤ n
  pub long : length rows' ≡ length rows
  pub words : (ps : List (Option ℕ)) → n ≡ length ps → Links ps 0 work → row_words (outline_of ps) ≡ take (2 * r) rows'

abbrev pub words_of : Answer → List ℕ
words_of (refused k) = []
words_of (gives l) = l

pub record Wrote (n : ℕ) (rows work rows' work' : List ℕ) (r : ℕ) : Type 0 where
  pub long_rows : length rows' ≡ length rows
  pub long_work : length work' ≡ length work
  pub room : 2 * r ≤ length rows
  pub words : words_of (outline_words n (length rows) work) ≡ take (2 * r) rows'
