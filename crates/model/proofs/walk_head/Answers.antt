-- A reader at the project record passes over it, and over the calendars. Assumes nothing.
use Rattle.std.proofs.Common.{refl}
use Rattle.model.specs.Sections.{PassesProject, PassesRecords}
use Rattle.model.specs.declared.records.Kind.TheVariants.{Calendars}
use Rattle.model.proofs.Through.{heads, same_bytes, passed}
use Rattle.model.proofs.walk_head.Goals as goal

pub returns : goal.returns
returns c =
    let s = c.args.s.now in
    let n = c.args.n in
    let a = c.past_project-calendars in
    let b = c.past_records-activities in
    heads {n = n} a.ensures.1 (passed (PassesRecords Calendars n.value.calendars) s a.result b.result b.ensures (same_bytes PassesProject s (record { model = c.args.s; place = n.next }) a.result a.ensures refl))
