use mathlib.Core.Path.{◌≡◌}
use Rattle.bits.specs.Reads.{read_field}
use Rattle.model.specs.Rising.{rose_none, rose_more, rose_stop, rose_done}
use Rattle.model.proofs.Single.{pass_past}
use native.Mathlib.Omega.{arith}
use Rattle.model.proofs.lists.skip_list.Goals as goal

pub loop-init : goal.loop-init
loop-init g c = (omega arith, rose_none g.met.T.Item.keys g.T.Item.format c.args.s.now c.take_u32-n.result.next)

pub returns-then-item-last : goal.returns-then-item-last
returns-then-item-last g c =
    let a = c.args in
    pass_past (rose_stop g.met.T.Item.keys g.T.Item.format c.loop.invariant.1 c.take-item.ensures (read_field a.s.now a.p 32 c.take_u32-n.ensures) (omega arith) c.if-item-last.true)

pub loop-preserved : goal.loop-preserved
loop-preserved g c = (omega arith, rose_more g.met.T.Item.keys g.T.Item.format c.loop.invariant.1 c.take-item.ensures c.if-item-last.false)

pub returns : goal.returns
returns g c =
    let a = c.args in
    let e : c.loop.counter ≡ c.take_u32-n.result.value = omega arith in
    rose_done g.met.T.Item.keys g.T.Item.format (read_field a.s.now a.p 32 c.take_u32-n.ensures) (rw e at c.loop.invariant.1)
