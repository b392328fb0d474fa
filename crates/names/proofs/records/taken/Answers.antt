use mathlib.Core.Bool.{false}
use Rattle.definition.specs.Base.{same}
use Rattle.model.specs.Passes.{pass_no, pass_more}
use Rattle.model.specs.Parts.{record_of}
use Rattle.pack.specs.Value.{starred_by}
use Rattle.names.proofs.Starred.{seen_text}
use Rattle.names.specs.Seen.{text_here, left_start, left_hit, left_on, left_end}
use native.Mathlib.Omega.{arith}
use Rattle.names.proofs.records.taken.Goals as goal

pub loop-init : goal.loop-init
loop-init c =
    let a = c.args in
    (omega arith, pass_no (record_of false a.kind) a.out.now a.p, left_start a.kind a.out.now a.p a.count (same (starred_by a.wanted.now a.stars)))

pub returns-then-same_starred : goal.returns-then-same_starred
returns-then-same_starred c =
    let a = c.args in
    let l = c.loop in
    let t = starred_by a.wanted.now a.stars in
    left_hit a.kind a.out.now a.p a.count (same t) l.counter l.invariant.2 (omega arith)
    (seen_text t c.same_starred.ensures c.raw_text.ensures (text_here a.kind l.counter l.invariant.1) c.if-same_starred.true)

pub loop-preserved : goal.loop-preserved
loop-preserved c =
    let a = c.args in
    let l = c.loop in
    let t = starred_by a.wanted.now a.stars in (
      omega arith,
      pass_more (record_of false a.kind) l.counter l.invariant.1 c.skip_record-q.ensures.0,
      left_on a.kind a.out.now a.p a.count (same t) l.counter l.invariant.2 (omega arith)
          (seen_text t c.same_starred.ensures c.raw_text.ensures (text_here a.kind l.counter l.invariant.1) c.if-same_starred.false),
    )

pub returns : goal.returns
returns c =
    let a = c.args in
    let l = c.loop in
    left_end a.kind a.out.now a.p a.count (same (starred_by a.wanted.now a.stars)) l.counter l.invariant.2 (omega arith)
