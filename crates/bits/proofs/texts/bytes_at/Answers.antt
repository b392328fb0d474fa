use mathlib.Core.Path.{sym}
use Rattle.bits.proofs.Spanning.{span_short, span_fits}
use native.Mathlib.Omega.{arith}
use Rattle.bits.proofs.texts.bytes_at.Goals as goal
use Rattle.bits.proofs.texts.bytes_at.Goals.{then-p-gt0-via-then-p-gt0, then-p-gt0-via-else-p-gt0+then-n-p, then-p-gt0-via-else-p-gt0+else-n-p+then-n-p-2}

pub returns-then-p-gt0 : goal.returns-then-p-gt0
returns-then-p-gt0 c =
    let a = c.args in
    sym (span_short a.n a.p a.len (λ z. elim c.then-p-gt0.branch [
      | then-p-gt0-via-then-p-gt0 w ↦ absurd (omega arith)
      | then-p-gt0-via-else-p-gt0+then-n-p w ↦ omega arith
      | then-p-gt0-via-else-p-gt0+else-n-p+then-n-p-2 w ↦ omega arith
    ]))

pub returns : goal.returns
returns c =
    let a = c.args in
    sym (span_fits a.n a.p a.len (omega arith) (omega arith))
