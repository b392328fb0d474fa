use native.Mathlib.Omega.{arith}
use mathlib.Core.Path.{◌≡◌}
use Rattle.names.proofs.Placing.{chained_none, chained_all, chained_more}
use Rattle.names.proofs.uids.chain_rows.Goals as goal

pub loop-row-init : goal.loop-row-init
loop-row-init c = (omega arith, chained_none _ _ c.requires.0 c.clear.ensures)

pub loop-row-preserved : goal.loop-row-preserved
loop-row-preserved c =
    (omega arith, chained_more c.loop-row.invariant.1 (omega (arith, c.loop-row-test.true, c.requires.1)) c.place-place.ensures c.text_of.ensures c.hash_of-hash.ensures c.put.ensures)

pub returns : goal.returns
returns c =
    let e : c.loop-row.row ≡ c.args.count = omega (arith, c.loop-row.invariant.0) in
    chained_all _ _ c.requires.0 c.clear.ensures (rw e at c.loop-row.invariant.1)
