-- `index::clear_words` meets its contract. Past the end nothing is stored. Assumes nothing.
use mathlib.Core.Path.{◌∙◌}
use native.Mathlib.Omega.{arith}
use Rattle.index.specs.Steps.{zeros_none, zeros_out}
use Rattle.index.proofs.Calls.{zeros_filled}
use Rattle.index.proofs.clear_words.Goals as goal

pub returns-then-m-gt0 : goal.returns-then-m-gt0
returns-then-m-gt0 c =
    let a = c.args in
    let m = c.reach-m.result in
    zeros_filled a.words.now a.from m (omega arith) (c.fill.ensures.after (λ y e. e)) ∙ zeros_out a.words.now a.from m a.n (omega arith) c.reach-m.ensures

pub returns-else-m-gt0 : goal.returns-else-m-gt0
returns-else-m-gt0 c =
    let a = c.args in
    zeros_none a.words.now a.from ∙ zeros_out a.words.now a.from 0 a.n (omega arith) (omega (arith, c.reach-m.ensures))
