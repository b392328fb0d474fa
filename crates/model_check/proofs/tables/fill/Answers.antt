use mathlib.Core.Path.{refl, ◌∙◌}
use mathlib.Core.Bool.{true}
use native.Mathlib.Omega.{arith}
use Rattle.model_check.specs.Kinds.{run}
use Rattle.model_check.proofs.Scan.{on}
use Rattle.model_check.proofs.Tabled.{never, fill_starts, fill_goes, filled}
use Rattle.model_check.proofs.tables.fill.Goals as goal

pub loop-i-init : goal.loop-i-init
loop-i-init g c = (omega arith, refl, refl, λ small e key k xs end r. fill_starts r e)

pub loop-i-preserved : goal.loop-i-preserved
loop-i-preserved g c =
    let v = c.loop-i.invariant in (
      omega arith,
      c.put_key.auto.words ∙ v.1,
      c.next_record-q.ensures.1,
      λ small e key k xs end r. fill_goes (v.3 small e key k xs end r) k small v.2 (omega arith) c.put_key.ensures.1 refl c.put_key.ensures.2 (on never true (v.3 small e key k xs end r).along (omega arith) c.next_record-q.ensures.0),
    )

pub returns : goal.returns
returns g c =
    let v = c.loop-i.invariant in
    λ small z e key k xs end h. filled (v.3 small e key k xs end (rw z (run _ h))) (omega arith)
