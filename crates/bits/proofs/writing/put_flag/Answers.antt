use mathlib.Core.Path.{◌∙◌}
use Rattle.bits.specs.Steps.{put_flag, put_same}
use Rattle.bits.proofs.Laws.{bit_is}
use Rattle.bits.proofs.writing.put_flag.Goals as goal

pub returns : goal.returns
returns c = put_flag (put_same (c.from.ensures ∙ bit_is c.args.b) c.put.ensures)
