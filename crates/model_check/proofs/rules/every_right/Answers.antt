use mathlib.Core.Path.{sym, ap, ◌∙◌}
use mathlib.Core.Bool.{not}
use Rattle.model_check.specs.Kinds.{run}
use Rattle.model_check.proofs.Scan.{starts, here, on, stops, goes, ended, every_scan}
use native.Mathlib.Omega.{arith}
use Rattle.model_check.proofs.rules.every_right.Goals as goal

pub loop-init : goal.loop-init
loop-init g c = λ of u xs end r. starts _ _ r

pub returns-then-not-right : goal.returns-then-not-right
returns-then-not-right g c =
    λ of u xs end h.
    let w = c.loop.invariant of u xs end (run _ h) in
    let t = here _ _ w (omega arith) in
    stops _ _ w t.is (ap not (sym (u _ _ _ t.stands c.right.ensures) ∙ c.if-not-right.true)) ∙ every_scan of 0 xs

pub loop-preserved : goal.loop-preserved
loop-preserved g c =
    λ of u xs end r.
    let w = c.loop.invariant of u xs end r in
    let t = on _ _ w (omega arith) c.skip_record-q.ensures.0 in
    goes _ _ w t (ap not (sym (u _ _ _ t.stands c.right.ensures) ∙ c.if-not-right.false))

pub returns : goal.returns
returns g c =
    λ of u xs end h. ended _ _ (c.loop.invariant of u xs end (run _ h)) (omega arith) ∙ every_scan of 0 xs
