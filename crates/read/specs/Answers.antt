-- What reading a tree answers, and what it leaves. Assumes nothing.
use Rattle.definition.specs.Answer.{answer_length, answer_number}
use Rattle.std.specs.Prelude.{ℕ, ◌≡◌, List, length, replicate}
use Rattle.definition.specs.Text.{Text}
use Rattle.definition.specs.Refusal.{Answer, result, left, written, tree_refusal, read_answer}
use Rattle.std.specs.Prelude.{Result}
use Rattle.definition.specs.declared.Refusal.{Refusal}

-- document 01's number, and how many bytes the model has
-- an answer with the buffer that it leaves is the definition's, in so much room
pub record Leaves (room : ℕ) (a : Answer) (r : Result ℕ Refusal) (out : List ℕ) : Type 0 where
  pub refusal : answer_number r ≡ result a
  pub count : answer_length r ≡ written a
  pub given : out ≡ left room a

-- where the tree is not refused
pub record Fills (tree : Text) (model model' : List ℕ) (r : Result ℕ Refusal) : Type 0 where
  pub fills : tree_refusal tree ≡ 0 → Leaves (length model) (read_answer tree (length model)) r model'

-- the answer, the model at exit, and the work at exit
pub record Gives (tree : Text) (model work model' work' : List ℕ) (r : Result ℕ Refusal) : Type 0 where
  pub leaves : Leaves (length model) (read_answer tree (length model)) r model'
  pub cleared : work' ≡ replicate (length work) 0
