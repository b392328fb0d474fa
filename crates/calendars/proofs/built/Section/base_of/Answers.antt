use Rattle.std.proofs.Common.{sym, ◌∙◌}
use Rattle.tree.specs.Place.{meaning}
use Rattle.tree.specs.Root.{root_at}
use Rattle.calendars.proofs.Builts.{base_none, base_found, base_absent}
use Rattle.calendars.proofs.built.Section.base_of.Goals as goal

pub returns-then-not-has_base : goal.returns-then-not-has_base
returns-then-not-has_base c =
    let a = c.args in
    let t = a.self in
    base_none t.root.tree.now (root_at t.root) (meaning a.e) t t.start a.count a.out.now a.words.now (sym c.has_base.ensures ∙ c.if-not-has_base.true)

pub returns-in_err-row : goal.returns-in_err-row
returns-in_err-row c =
    rw c.from_residual.ensures (base_found c.args.self.root.tree.now (sym c.has_base.ensures ∙ c.if-not-has_base.false) _ c.text_of-uid.ensures c.calendar_by.ensures.is (rw c.in_err-row.was base_absent))

pub returns : goal.returns
returns c =
    base_found c.args.self.root.tree.now (sym c.has_base.ensures ∙ c.if-not-has_base.false) _ c.text_of-uid.ensures c.calendar_by.ensures.is (rw c.in_ok-row.was c.base_at.ensures)
