use Rattle.std.proofs.Common.{◌∙◌}
use Rattle.read_model.proofs.Programs.{too_long, length_is, writes}
use Rattle.read_model.proofs.model_of.Goals as goal

pub returns-then-tree-gt-MOST-clause-writes : goal.returns-then-tree-gt-MOST-clause-writes
returns-then-tree-gt-MOST-clause-writes c = too_long c.args.tree.now c.args.room.now c.if-tree-gt-MOST.true

pub returns-clause-writes : goal.returns-clause-writes
returns-clause-writes c =
    writes c.unwrap_or.result c.if-tree-gt-MOST.false c.read.ensures (c.unwrap_or.ensures ∙ length_is c.read.result)
