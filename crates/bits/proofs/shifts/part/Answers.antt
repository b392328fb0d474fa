use Prim.Native.Nat.{◌/◌, ◌^◌}
use Rattle.bits.proofs.Laws.{masked}
use Rattle.bits.proofs.shifts.part.Goals as goal

pub returns : goal.returns
returns c = masked (c.args.v / 2 ^ c.args.skip) c.args.k c.requires.1
