-- The words of a table, and what each call makes of them. Words past the end read as 0 and store nothing. Assumes nothing.
use Rattle.std.specs.Prelude.{if◌then◌else◌, ℕ, zero, suc, ◌+◌, ◌-◌, ◌*◌, ◌%◌, ◌&&◌, List, [], ◌∷◌, get_or, set, ltb, leb}
use Rattle.std.specs.Prelude.{Option, Some, None}
use Rattle.index.specs.declared.Table.{Table}
use Rattle.index.specs.declared.Chain.{Chain}

-- a table from a place on, where the words are long enough for it
unfoldable pub table_of : ℕ → ℕ → ℕ → Option Table
table_of len at rows = if ltb 0 rows && leb (at + 3 * rows) len then Some (record { at = at; rows = rows }) else None

-- where the word of a row's chain stands, and that of its place; and where the table ends
abbrev pub next_at : Table → ℕ → ℕ
next_at t row = t.at + (t.rows + row)

abbrev pub place_at : Table → ℕ → ℕ
place_at t row = t.at + (2 * t.rows + row)

abbrev pub end_of : Table → ℕ
end_of t = t.at + 3 * t.rows

abbrev pub end_in : Option Table → ℕ
end_in None = 0
end_in (Some t) = end_of t

-- n zeros from a place on
unfoldable pub zeros : List ℕ → ℕ → ℕ → List ℕ
zeros w from zero = w
zeros w from (suc n) = set (zeros w from n) (from + n) 0

-- a row in front of the chain of its bucket, with its place
unfoldable pub added : List ℕ → Table → ℕ → ℕ → ℕ → List ℕ
added w t row h place =
    if ltb row t.rows
    then set (set (set w (next_at t row) (get_or w (t.at + h % t.rows) 0)) (t.at + h % t.rows) (row + 1)) (place_at t row) place
    else w

-- the row that a word names, 1 for row 0, if it is below a bound
unfoldable pub row_below : ℕ → ℕ → Option ℕ
row_below bound word = if ltb 0 word && leb word bound then Some (word - 1) else None

abbrev pub first_of : List ℕ → Table → ℕ → Option ℕ
first_of w t h = row_below t.rows (get_or w (t.at + h % t.rows) 0)

abbrev pub next_of : List ℕ → Table → ℕ → Option ℕ
next_of w t row = row_below row (get_or w (next_at t row) 0)

abbrev pub place_of : List ℕ → Table → ℕ → ℕ
place_of w t row = get_or w (place_at t row) 0

-- ---- walks

-- the rows of a walk from a row on, k at most
unfoldable pub walk : List ℕ → Table → ℕ → Option ℕ → List ℕ
walk w t zero at = []
walk w t (suc k) None = []
walk w t (suc k) (Some r) = r ∷ walk w t k (next_of w t r)

-- how many rows are left where a walk stands: the row and those below it
abbrev pub up_to : Option ℕ → ℕ
up_to None = 0
up_to (Some r) = suc r

-- all rows from a row on
abbrev pub chain : List ℕ → Table → Option ℕ → List ℕ
chain w t at = walk w t (up_to at) at

-- all rows of a hash's bucket, the last first
abbrev pub chain_of : List ℕ → Table → ℕ → List ℕ
chain_of w t h = chain w t (first_of w t h)

-- the rows that are left to an iterator over a chain
abbrev pub rows_left : Chain → List ℕ
rows_left c = chain c.words.now c.table c.next
