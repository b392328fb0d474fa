use native.Mathlib.Omega.{arith}
use Prim.Native.Nat.{ℕ, ◌+◌}
use mathlib.Core.Path.{◌≡◌, refl, sym, ap, subst, ◌∙◌}
use Rattle.std.proofs.Common.{mod-eq_of_lt}
use mathlib.Core.List.{map}
use lib.ListN.{length, take}
use Rattle.definition.specs.Task.{level_of, kept_tasks, parent_of}
use Rattle.definition.specs.Text.{Text}
use Rattle.definition.specs.Tree.{Element}
use Rattle.laws.specs.FitTrees.{Small, tasks_most}
use Rattle.index.specs.Below.{below_then}
use Rattle.names.specs.Context.{context_at}
use Rattle.rows.specs.Small.{small_at, small_root}
use Rattle.rows.specs.Walks.{kept_left}
use Rattle.rows.specs.declared.kept.KeptTasks.{KeptTasks}
use Rattle.tree.specs.Place.{element_at}
use Rattle.tree.specs.Root.{root_at}
use Rattle.activities.proofs.Ids.{row_below, row_held}
use Rattle.activities.proofs.Loop.{written_none, written_all}
use Rattle.activities.proofs.Turn.{stays_begin, stays_ready, found_same, goes_task, goes_finds, goes_on, ids_on}
use Rattle.activities.proofs.put_tasks.Goals as goal

pub loop-task-init : goal.loop-task-init
unfolding context_at
loop-task-init c =
    let e = ap (λ (k : KeptTasks). kept_left k) c.into_iter-task-iterator.ensures.into_iter_gives ∙ c.kept_tasks-task-items.ensures.is in
    rw c.none-done.ensures (refl, omega (arith, ap length e, tasks_most (root_at c.args.section.root)), written_none (sym e), stays_begin c.requires.1.room, rw c.into_iter-task-iterator.ensures.into_iter_gives c.kept_tasks-task-items.ensures.of)

pub returns : goal.returns
returns c =
    (written_all refl refl (omega (arith, c.loop-task.invariant.1)) c.in-None.ensures.steps.0 c.loop-task.invariant.2, c.loop-task.invariant.3.same)

pub put_row-requires : goal.put_row-requires
put_row-requires c =
    let x = c.args.section in
    let bytes = c.requires.1.bytes in
    let root = root_at x.root in
    let small = small_root x.root bytes in
    let w = rw c.in-Some.ensures.steps.0 at c.loop-task.invariant.2 in
    let g = goes_task _ x.calendars root c.requires.0 small w in
    let there = c.in-Some.ensures.steps.1 x.root.tree.now c.loop-task.invariant.4 in
    record {
      parents = stays_ready c.loop-task.invariant.3 c.requires.1.room there.0 g.1;
      day = c.requires.1.day;
      finds = goes_finds _ x.calendars root c.requires.0 small w c.loop-task.invariant.3.names c.requires.1.finds;
      opened = rw c.loop-task.invariant.0 c.requires.1.room.opened;
      ids = c.loop-task.invariant.3.ids;
    }

pub loop-task-preserved : goal.loop-task-preserved
loop-task-preserved c =
    let x = c.args.section in
    let root = root_at x.root in
    let at = c.in-Some.task.at in
    let k = ap length c.in-Some.ensures.steps.0 in
    let bytes = c.requires.1.bytes in
    let small = small_root x.root bytes in
    let there = c.in-Some.ensures.steps.1 x.root.tree.now c.loop-task.invariant.4 in
    let own = subst (λ (s : Text). Small (element_at s at)) (sym there.0.tree) (small_at x.root.tree.now bytes at) in
    let y = c.loop-task.invariant.3 in
    let w = rw c.in-Some.ensures.steps.0 at c.loop-task.invariant.2 in
    let g = goes_task _ x.calendars root c.requires.0 small w in
    let n = c.put_row.ensures.1 in
    let room = c.requires.1.room in
    let opened = rw (sym c.loop-task.invariant.0) at room.opened in
    let same = below_then y.same (row_below n opened room.behind) in
    let found = found_same x.root x.tasks same in
    let row = c.loop-task.done.count in
    let more : c.more-done.result ≡ record { count = row + 1; next = c.put_row.result } = c.more-done.ensures ∙ ap (λ (n : ℕ). record { count = n; next = c.put_row.result }) (mod-eq_of_lt (omega (arith, k, c.loop-task.invariant.1))) in
    rw more (
      c.put_row.auto.out ∙ c.loop-task.invariant.0,
      omega (arith, k, c.loop-task.invariant.1),
      goes_on _ x.calendars root c.requires.0 small w found c.put_row.ensures.0 (omega (arith, c.loop-task.invariant.1)) own refl,
      record {
        same = same;
        names = below_then y.names (row_below n opened room.behind_names);
        held = row_held n opened (rw (sym y.same.long) at room.room) y.held (ap (λ (s : Text). element_at s at) (sym there.0.tree) ∙ g.0) g.1 (ap (λ (t : Element). parent_of (map level_of (take row (kept_tasks root))) (level_of t)) g.0);
        ids = ids_on _ x.calendars root c.requires.0 small w found c.put_row.ensures.0 (omega (arith, c.loop-task.invariant.1)) own n opened y.ids;
      },
      there.1,
    )
