-- What the outline of a model's bytes answers. Assumes nothing.
use Rattle.definition.specs.Answer.{answer_length, answer_number}
use Rattle.std.specs.Prelude.{ℕ, ◌≡◌, List, length, replicate}
use Rattle.definition.specs.declared.Refusal.{Refusal}
use Rattle.std.specs.Prelude.{Result}
use Rattle.definition.specs.Refusal.{result, left, row_count, outline_answer}

-- document 01's number, and how many rows there are
-- the answer, and what stands in the two slices at exit
pub record Gives (s rows work rows' work' : List ℕ) (r : Result ℕ Refusal) : Type 0 where
  pub refusal : answer_number r ≡ result (outline_answer s (length rows) (length work))
  pub count : answer_length r ≡ row_count (outline_answer s (length rows) (length work))
  pub given : rows' ≡ left (length rows) (outline_answer s (length rows) (length work))
  pub cleared : work' ≡ replicate (length work) 0
