use Rattle.std.proofs.Common.{refl}
use Rattle.calendars.proofs.Builts.{adds_said}
use Rattle.calendars.proofs.built.Section.put_one.Goals as goal

pub returns : goal.returns
returns c = rw c.more.ensures (adds_said c.stars_for-stars.result c.calendar_text-name.ensures c.stars_for-stars.ensures c.base_of.ensures c.put-next.ensures.written _ c.put-next.ensures.kept c.note_stars.ensures refl refl)
