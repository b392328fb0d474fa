-- What `outline_rows` gives. The work slice has four words an activity, and at entry the first of them names the row of its parent.
-- Assumes nothing.
use Rattle.std.specs.Prelude.{if◌then◌else◌, ℕ, ◌*◌, ◌/◌, ◌≤◌, ◌≡◌, ◌||◌, List, map, length, get_or, replicate, ltb}
use Rattle.std.specs.Prelude.{Option, Some}
use Rattle.definition.specs.Base.{count}
use Rattle.definition.specs.Outline.{outline_of}
use Rattle.definition.specs.Refusal.{Answer, refused, gives, left, written, row_words}

-- a word that names no row
abbrev pub no_row : ℕ
no_row = 0xFFFF_FFFF

-- the parents of n activities; a row out of range, or the activity's own, is no parent
unfoldable pub parents_in : ℕ → List ℕ → List (Option ℕ)
parents_in n work = map (λ row. Some (get_or work (4 * row) 0)) (count 0 n)

-- the words of the outline, with so many words of room
unfoldable pub outline_words : ℕ → ℕ → List ℕ → Answer
outline_words n room work =
    if ltb room (2 * n) || ltb (length work) (4 * n) then refused 9 else gives (row_words (outline_of (parents_in n work)))

-- so many rows have a word each; what stands in the two slices at exit, and how many rows the answer says
pub record Outlined (n : ℕ) (rows work rows' work' : List ℕ) (r : ℕ) : Type 0 where
  pub few : n ≤ no_row
  pub given : rows' ≡ left (length rows) (outline_words n (length rows) work)
  pub cleared : work' ≡ replicate (length work) 0
  pub counted : r ≡ written (outline_words n (length rows) work) / 2
