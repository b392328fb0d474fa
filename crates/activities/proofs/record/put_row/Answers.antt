-- `activities::record::put_row` meets its contract. Assumes nothing.
use mathlib.Core.Path.{◌∙◌}
use mathlib.Core.List.{map}
use lib.ListN.{take}
use Prim.Native.Nat.{◌%◌, ◌^◌}
use Rattle.definition.specs.Task.{level_of, kept_tasks}
use Rattle.model.specs.declared.records.Kind.TheVariants.{Activities}
use Rattle.bits.specs.Steps.{put_same}
use Rattle.names.specs.Context.{context_at}
use Rattle.names.specs.Texts.{texts_at}
use Rattle.tree.specs.Place.{meaning}
use Rattle.tree.specs.Root.{root_at}
use Rattle.activities.proofs.Ids.{stars_moved, row_noted}
use Rattle.activities.proofs.Values.{calendar_found, row_puts}
use Rattle.activities.proofs.record.put_row.Goals as goal

pub returns : goal.returns
unfolding context_at
returns c =
    let a = c.args in
    let x = a.section in
    let root = root_at x.root in
    let t = meaning a.task in
    let text = c.wanted_id-text.result.now in
    let stars = c.stars_for-stars.result in
    let free = stars_moved c.requires.opened a.p c.requires.ids a.task.at _ c.parent_of-parent.ensures.1 text stars c.stars_for-stars.ensures in (
      row_puts (context_at a.out.now x.calendars root) (texts_at Activities a.out.now x.start a.row) (map level_of (take a.row (kept_tasks root))) _ t c.plan_of-plan.result text stars
          c.is_elapsed-elapsed.ensures (c.calendar_for-calendar.ensures ∙ calendar_found c.requires.finds c.is_elapsed-elapsed.result t) c.wanted_id-text.ensures free c.day_of.ensures c.requires.day c.parent_of-parent.ensures.0 c.plan_of-plan.ensures
          (put_same c.record_of.ensures c.put.ensures),
      row_noted x.own a.row a.task.at c.parent_of-parent.ensures.0 c.wanted_id-text.ensures stars (a.p.byte % 2 ^ 32) a.words.now c.parent_of-parent.ensures.1 c.note_stars.ensures free,
    )
