use Rattle.std.proofs.Common.{◌≡◌, ◌+◌, ◌-◌, ◌<◌, ◌≤◌, ltb, map, take, refl, ap, sym, subst, ◌∙◌, arith}
use mathlib.Core.Logic.{inl, inr}
use Rattle.std.specs.Prelude.{None}
use Rattle.definition.specs.Base.{when}
use Rattle.definition.specs.Task.{level_of, parent_of, kept_tasks}
use Rattle.tree.specs.Root.{root_at}
use Rattle.rows.specs.Walks.{kept_left}
use Rattle.rows.proofs.Lasts.{RowIn, itself, parents_begin, row_turn, row_end}
use Rattle.rows.proofs.Walking.{take_next, take_last, take_out}
use Rattle.rows.proofs.kept.parent_row.Goals as goal

pub loop-n-init : goal.loop-n-init
loop-n-init c =
    let a = c.args in
    let same = c.into_iter-n-iterator.ensures.into_iter_gives in
    let begun = ap (λ k. k.a.start) same ∙ ap (λ r. r.start) c.zip-n-items.ensures.first in
    let tasks = sym (ap (λ k. kept_left k.b) same ∙ ap kept_left c.zip-n-items.ensures.second ∙ c.kept_tasks.ensures.is) in (
      subst (λ n. RowIn itself (λ e. ltb (level_of e) a.level) (parent_of (map level_of (take a.row (kept_tasks (root_at a.root)))) a.level) n (take (a.row - n) (kept_left c.into_iter-n-iterator.result.b)) None) (sym begun) (parents_begin a.row _ _ tasks),
      ap (λ k. k.a.end) same ∙ ap (λ r. r.end) c.zip-n-items.ensures.first,
    )

pub loop-n-preserved : goal.loop-n-preserved
loop-n-preserved c =
    let a = c.args in
    let turn = c.in-Some.ensures.steps in
    let inside : c.loop-n.n-iterator.a.start < a.row = omega (arith, turn.0.1.0, c.loop-n.invariant.1) in
    let on : c.next.new.self.a.start ≡ c.loop-n.n-iterator.a.start + 1 = turn.0.1.2 in (
      subst (λ n. RowIn itself (λ e. ltb (level_of e) a.level) (parent_of (map level_of (take a.row (kept_tasks (root_at a.root)))) a.level) n (take (a.row - n) (kept_left c.next.new.self.b)) c.or-found.result) (sym on)
          (row_turn c.loop-n.invariant.0 (take_next a.row c.loop-n.n-iterator.a.start inside turn.1.0) (ap (λ n. ltb n a.level) c.level_of.ensures) (c.then_some-lower.ensures ∙ ap (λ n. when (ltb c.level_of.result a.level) n) turn.0.1.1) c.or-found.ensures refl),
      turn.0.0 ∙ c.loop-n.invariant.1,
    )

pub returns : goal.returns
returns c =
    let a = c.args in
    elim c.in-None.ensures.steps [
      | inl w ↦ let over : a.row ≤ c.loop-n.n-iterator.a.start = omega (arith, w.1.1.0, c.loop-n.invariant.1) in row_end c.loop-n.invariant.0 (take_last a.row c.loop-n.n-iterator.a.start _ over)
      | inr w ↦ row_end c.loop-n.invariant.0 (take_out (a.row - c.loop-n.n-iterator.a.start) w.1.0)
    ]
