use mathlib.Core.Path.{refl, ◌∙◌}
use native.Mathlib.Omega.{arith}
use Rattle.day_sheet.proofs.Writes.{copied_none, copied_more}
use Rattle.day_sheet.proofs.copy_periods.Goals as goal

pub loop-init : goal.loop-init
loop-init c = let a = c.args in (omega arith, refl, copied_none a.s.now a.from a.count a.out.now a.p)

pub loop-preserved : goal.loop-preserved
loop-preserved c = (omega arith, c.put_taken-at.ensures.step.same ∙ c.loop.invariant.1, copied_more c.loop.invariant.2 c.loop-test.true c.take_period-t.ensures c.put_taken-at.ensures)
