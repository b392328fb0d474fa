use native.Mathlib.Omega.{arith}
use Rattle.day_sheet.proofs.Walks.{on_day, met, unmet_more, unmet_all, dates_dated, dates_ahead, date_passed, date_found, date_missing}
use Rattle.day_sheet.proofs.has_date.Goals as goal

pub returns-then-eq : goal.returns-then-eq
returns-then-eq c = let a = c.args in λ d k l h. date_found d l (met dates_dated c.loop.invariant.1 c.loop-test.true c.take_date-t.ensures (on_day c.take_date-t.result.value a.day c.eq.ensures) c.if-eq.true d k l (dates_ahead a.s.now a.p c.take_u32-n.ensures h)).is

pub loop-preserved : goal.loop-preserved
loop-preserved c = let a = c.args in (omega arith, unmet_more dates_dated c.loop.invariant.1 c.loop-test.true c.take_date-t.ensures (on_day c.take_date-t.result.value a.day c.eq.ensures) c.if-eq.false (date_passed a.s.now _ c.take_date-t.ensures))

pub returns : goal.returns
returns c = let a = c.args in λ d k l h. date_missing d l (unmet_all dates_dated c.loop.invariant.1 (omega arith) d k l (dates_ahead a.s.now a.p c.take_u32-n.ensures h))
