-- `trim_back` meets its contract. What is left, trimmed, is the text trimmed. Assumes nothing.
use mathlib.Core.Path.{◌≡◌}
use lib.ListN.{length}
use Rattle.definition.specs.Text.{trim_back}
use Rattle.text.proofs.white.trim_back.Given as goal

abbrev pub invariant-loop-rest : goal.invariant-loop-rest
invariant-loop-rest l = trim_back l.s ≡ trim_back l.fn.s

abbrev pub decreases-loop-rest : goal.decreases-loop-rest
decreases-loop-rest l = length l.s
