use mathlib.Core.Path.{sym, ◌∙◌}
use Rattle.model_check.specs.Keys.{key_of, same_key}
use Rattle.model_check.proofs.Scan.{starts, here, on, stops, goes, ended, some_scan}
use native.Mathlib.Omega.{arith}
use Rattle.model_check.proofs.keys.some_has_key.Goals as goal

pub loop-init : goal.loop-init
loop-init g c = λ key k xs end r. starts _ _ r

pub returns-then-has_key : goal.returns-then-has_key
returns-then-has_key g c =
    let a = c.args in
    let l = c.loop in
    λ key k xs end r.
    let w = l.invariant key k xs end r in
    let t = here _ _ w (omega arith) in
    stops _ _ w t.is (sym (c.has_key.ensures (key t.item) (k.first t.stands)) ∙ c.if-has_key.true) ∙ some_scan (λ x. same_key (key_of a.key) (key x)) 0 xs

pub loop-preserved : goal.loop-preserved
loop-preserved g c =
    let l = c.loop in
    λ key k xs end r.
    let w = l.invariant key k xs end r in
    let t = on _ _ w (omega arith) c.next_record-q.ensures.0 in
    goes _ _ w t (sym (c.has_key.ensures (key t.item) (k.first t.stands)) ∙ c.if-has_key.false)

pub returns : goal.returns
returns g c =
    let a = c.args in
    λ key k xs end r. ended _ _ (c.loop.invariant key k xs end r) (omega arith) ∙ some_scan (λ x. same_key (key_of a.key) (key x)) 0 xs
