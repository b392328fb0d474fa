use native.Mathlib.Omega.{arith}
use Rattle.model.specs.Passes.{◌⨾◌}
use Rattle.day_sheet.proofs.Walks.{on_day, met, unmet_more, unmet_all, days_dated, exceptions_ahead, date_passed, hours_found, hours_missing}
use Rattle.day_sheet.proofs.exception_place.Goals as goal

pub returns-then-eq : goal.returns-then-eq
returns-then-eq c = let a = c.args in λ d k l h. hours_found (met days_dated c.loop.invariant.1 c.loop-test.true c.take_date-t.ensures (on_day c.take_date-t.result.value a.day c.eq.ensures) c.if-eq.true d k l (exceptions_ahead a.s.now a.p c.take_u32-n.ensures h)) (date_passed a.s.now _ c.take_date-t.ensures)

pub loop-preserved : goal.loop-preserved
loop-preserved c = let a = c.args in (omega arith, unmet_more days_dated c.loop.invariant.1 c.loop-test.true c.take_date-t.ensures (on_day c.take_date-t.result.value a.day c.eq.ensures) c.if-eq.false (date_passed a.s.now _ c.take_date-t.ensures ⨾ c.skip_periods-q.ensures))

pub returns : goal.returns
returns c = let a = c.args in λ d k l h. hours_missing d l (unmet_all days_dated c.loop.invariant.1 (omega arith) d k l (exceptions_ahead a.s.now a.p c.take_u32-n.ensures h))
