use mathlib.Core.Path.{sym, ◌∙◌}
use Rattle.model_check.specs.Kinds.{run}
use Rattle.model_check.specs.Keys.{same_key}
use Rattle.model_check.proofs.Scan.{starts, on, stops, goes, ended, behind, distinct_scan}
use native.Mathlib.Omega.{arith}
use Rattle.model_check.proofs.keys.distinct.Goals as goal

pub loop-i-init : goal.loop-i-init
loop-i-init g c = λ key k xs end r. starts _ _ r

pub returns-then-is_repeated : goal.returns-then-is_repeated
returns-then-is_repeated g c =
    let l = c.loop-i in
    λ key k xs end h.
    let w = l.invariant key k xs end (run _ h) in
    let t = on _ _ w (omega arith) c.next_record-next.ensures.0 in
    stops _ _ w t.is (sym (c.is_repeated.ensures key k t.item t.stands _ end (behind _ _ w t (omega arith))) ∙ c.if-is_repeated.true) ∙ distinct_scan (λ x y. same_key (key x) (key y)) 0 xs

pub loop-i-preserved : goal.loop-i-preserved
loop-i-preserved g c =
    let l = c.loop-i in
    λ key k xs end r.
    let w = l.invariant key k xs end r in
    let t = on _ _ w (omega arith) c.next_record-next.ensures.0 in
    goes _ _ w t (sym (c.is_repeated.ensures key k t.item t.stands _ end (behind _ _ w t (omega arith))) ∙ c.if-is_repeated.false)

pub returns : goal.returns
returns g c =
    λ key k xs end h. ended _ _ (c.loop-i.invariant key k xs end (run _ h)) (omega arith) ∙ distinct_scan (λ x y. same_key (key x) (key y)) 0 xs
