use mathlib.Core.Path.{refl}
use native.Mathlib.Omega.{arith}
use Rattle.tree.proofs.Records.{read_past, read_whole, read_cut}
use Rattle.tree.proofs.read_head.Goals as goal

pub returns-then-s-lt-HEAD : goal.returns-then-s-lt-HEAD
returns-then-s-lt-HEAD c = read_past c.args.s.now c.args.at (omega arith)

pub returns-then-s-next : goal.returns-then-s-next
returns-then-s-next c =
    read_cut _ _ _ _ (omega arith) c.word_at-w.ensures c.word_at-t.ensures c.if-s-next.true

pub returns : goal.returns
returns c =
    read_whole _ _ _ _ (omega arith) c.word_at-w.ensures c.word_at-t.ensures c.if-s-next.false refl refl
