use Rattle.std.proofs.Common.{◌<◌, ◌≤◌, ◌^◌, length, sym, ap, ◌∙◌, subst, arith}
use mathlib.Core.Logic.{inl, inr}
use Rattle.std.proofs.lemmas.Result.{OkIff-decides}
use Rattle.tree.specs.Root.{root_at}
use Rattle.rows.specs.Tables.{elements_left, Ripe, Tabled}
use Rattle.rows.proofs.Filling.{Filling, fill_begin, fill_end, fill_full, fill_turn, made_ripe, makes_filled}
use Rattle.rows.proofs.Listing.{listed_few}
use Rattle.rows.proofs.table.index_rows.Goals.{In_ok-ok}
use Rattle.rows.proofs.table.index_rows.Goals as goal

short : (c : In_ok-ok) → length c.args.root.tree.now < 2 ^ 32
short c = (OkIff-decides _ _ _ c.try_from.ensures).0 (sym c.in_ok-ok.ensures.variant)

pub count_items-n-requires : goal.count_items-n-requires
count_items-n-requires c =
    let a = c.args in
    omega (arith, ap length c.elements-items.ensures.is, listed_few a.root a.list (short (goal.at.count_items-n-requires c).In_ok-ok))

pub loop-row-preserved : goal.loop-row-preserved
loop-row-preserved c =
    let turn = c.in-Some.ensures.steps in
    let at = turn.1.1 _ c.loop-row.invariant.1 in (
      λ w r i. subst (λ n. Filling c.args.root.tree.now (root_at c.args.root) c.args.list c.in_ok-t.t c.clear.new.words n (elements_left c.next.new.self.b) c.put.new.words) (sym turn.0.1.2)
          (fill_turn r (c.loop-row.invariant.0 w r i) c.in-Some.e turn.1.0 at.0 c.text_of.ensures c.hash_of-hash.ensures (rw turn.0.1.1 at c.put.ensures)),
      at.1,
      turn.0.0 ∙ c.loop-row.invariant.2,
    )

pub returns : goal.returns
returns c =
    let a = c.args in
    let t = c.in_ok-t.t in
    let s = short (goal.at.returns c).In_ok-ok in
    let n = c.count_items-n.ensures ∙ ap length c.elements-items.ensures.is in
    let p : Ripe a.root.tree.now (root_at a.root) a.list t a.words.now =
    made_ripe a.root.tree.now (root_at a.root) a.list a.at a.words.now s n c.max.ensures c.table_at.ensures c.in_ok-t.was (omega arith) in
    let items = sym (ap (λ k. elements_left k.b) c.into_iter-row-iterator.ensures.into_iter_gives ∙ ap elements_left c.zip-row-items.ensures.second ∙ c.elements-items.ensures.is) in
    let f = c.loop-row.invariant.0 _ p (fill_begin p c.clear.ensures items) in
    let filled : Tabled a.root.tree.now (root_at a.root) a.list t a.words.now c.loop-row.words = elim c.in-None.ensures.steps [
      | inl w ↦ let over : t.rows ≤ c.loop-row.row-iterator.a.start = omega (arith, w.1.1.0, c.loop-row.invariant.2) in fill_end p f c.clear.ensures (fill_full p f over)
      | inr w ↦ fill_end p f c.clear.ensures w.1.0
    ] in
    makes_filled a.root.tree.now (root_at a.root) a.list a.at a.words.now s n c.max.ensures c.table_at.ensures c.in_ok-t.was filled
