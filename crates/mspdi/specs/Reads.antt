-- What the reading entry leaves: its result, the model, the work and how many bytes the model has. Assumes nothing.
use Rattle.std.specs.Prelude.{ℕ, List, replicate}
use Rattle.definition.specs.Refusal.{Answer, result, left, written}

abbrev pub read_leaves : ℕ → ℕ → Answer → ℕ × List ℕ × List ℕ × ℕ
read_leaves room work a = (result a, left room a, replicate work 0, written a)
