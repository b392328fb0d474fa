use Rattle.std.proofs.Common.{◌∙◌, length, refl, sym, ap, subst, arith}
use Rattle.std.proofs.lemmas.List.{nil_from_length}
use mathlib.Core.Logic.{inl, inr}
use Rattle.definition.specs.Format.{whole}
use Rattle.definition.specs.Pack.{link as link_format}
use Rattle.definition.specs.Task.{context_of}
use Rattle.laws.specs.FitTrees.{tasks_most}
use Rattle.tree.specs.Root.{root_at}
use Rattle.rows.specs.Walks.{kept_left}
use Rattle.links.specs.Fates.{found_by, links_by, links_from}
use Rattle.links.specs.More.{Left, more_all}
use Rattle.links.proofs.Links.{from_begin, from_next, from_end}
use Rattle.links.proofs.writing.put_links.Goals as goal

pub loop-row-init : goal.loop-row-init
loop-row-init c =
    let f = c.args.finder in
    let same = c.into_iter-row-iterator.ensures.into_iter_gives in
    let begun = ap (λ k. k.a.start) same ∙ ap (λ r. r.start) c.zip-row-items.ensures.first in
    let tasks = ap (λ k. kept_left k.b) same ∙ ap kept_left c.zip-row-items.ensures.second ∙ c.kept_tasks.ensures.is in (
      refl,
      subst (λ n. Left (whole link_format) (links_by (found_by f) (context_of (root_at f.root))) (links_from c.per_day-per_day.result (found_by f) n (kept_left c.into_iter-row-iterator.result.b)) c.args.out.now c.none-r.result c.args.out.now c.none-r.result) (sym begun) (from_begin _ _ c.per_day-per_day.ensures (sym tasks)),
      omega (arith, begun, ap length tasks, tasks_most (root_at f.root)),
      ap (λ k. k.a.end) same ∙ ap (λ r. r.end) c.zip-row-items.ensures.first,
    )

pub returns : goal.returns
returns c =
    let i = c.loop-row.invariant in
    elim c.in-None.ensures.steps [
      | inl w ↦ more_all (rw c.none-r.ensures at (from_end _ _ _ i.1 (nil_from_length _ (omega (arith, w.1.1.0, i.2, i.3)))))
      | inr w ↦ more_all (rw c.none-r.ensures at (from_end _ _ _ i.1 w.1.0))
    ]

pub loop-row-preserved : goal.loop-row-preserved
loop-row-preserved c =
    let f = c.args.finder in
    let i = c.loop-row.invariant in
    let turn = c.in-Some.ensures.steps in (
      c.put_links_in-r.auto.out ∙ i.0,
      subst (λ n. Left (whole link_format) (links_by (found_by f) (context_of (root_at f.root))) (links_from c.per_day-per_day.result (found_by f) n (kept_left c.next.new.self.b)) c.args.out.now c.none-r.result c.put_links_in-r.new.out c.put_links_in-r.result) (sym turn.0.1.2) (from_next _ _ _ i.1 turn.1.0 (rw turn.0.1.1 at c.put_links_in-r.ensures)),
      omega (arith, turn.0.1.2, ap length turn.1.0, i.2),
      turn.0.0 ∙ i.3,
    )
