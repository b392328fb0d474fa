use Rattle.tree.specs.Place.{meaning}
use Rattle.assignments.proofs.Work.{adds_said}
use Rattle.assignments.proofs.resource.Section.put_one.Goals as goal

pub returns : goal.returns
returns c =
    let a = c.args in
    adds_said a.self (meaning a.e) a.words.now c.stars_for-stars.result c.wanted_id-id.ensures (rw c.row-row.ensures at c.stars_for-stars.ensures) _ c.calendar_of-calendar.ensures c.resource_of.ensures c.put-next.ensures
    (rw c.row-row.ensures at c.note_stars.ensures) c.more.ensures
