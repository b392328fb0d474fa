-- What the outline's entry leaves: its result, the rows, the work and how many rows there are. Assumes nothing.
use Rattle.std.specs.Prelude.{ℕ, List, replicate}
use Rattle.definition.specs.Refusal.{Answer, result, left, row_count}

abbrev pub outline_leaves : ℕ → ℕ → Answer → ℕ × List ℕ × List ℕ × ℕ
outline_leaves rows work a = (result a, left rows a, replicate work 0, row_count a)
