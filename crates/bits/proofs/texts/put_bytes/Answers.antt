use Rattle.bits.specs.Steps.{laid_step}
use Rattle.bits.proofs.Bytes.{bytes_past}
use native.Mathlib.Omega.{arith}
use Rattle.bits.proofs.texts.put_bytes.Goals as goal

pub returns-then-p-gt7 : goal.returns-then-p-gt7
returns-then-p-gt7 c = let a = c.args in bytes_past a.out.now a.s.now a.p (omega arith)

pub returns : goal.returns
returns c = laid_step c.copy_bytes.ensures
