-- A reader is made of the model, and six fields are taken through it. Assumes nothing.
use Rattle.std.proofs.Common.{ap}
use Rattle.reader.specs.declared.Reader.{Reader}
use Rattle.model.proofs.Through.{six_cut, six_given}
use Rattle.model.proofs.take_counts.Goals as goal

pub returns-then-next-gt7 : goal.returns-then-next-gt7
returns-then-next-gt7 c =
    six_cut c.args.s.now c.new.result (ap (λ (r : Reader). r.model.now) c.new.ensures) (ap (λ (r : Reader). r.place) c.new.ensures)
    _ _ _ _ _ _
    c.take_u32-calendars.ensures c.take_u32-activities.ensures c.take_u32-links.ensures c.take_u32-resources.ensures c.take_u32-assignments.ensures c.take_u32-expenses.ensures c.if-next-gt7.true

pub returns : goal.returns
returns c =
    six_given c.args.s.now c.new.result (ap (λ (r : Reader). r.model.now) c.new.ensures) (ap (λ (r : Reader). r.place) c.new.ensures)
    _ _ _ _ _ _
    c.take_u32-calendars.ensures c.take_u32-activities.ensures c.take_u32-links.ensures c.take_u32-resources.ensures c.take_u32-assignments.ensures c.take_u32-expenses.ensures c.if-next-gt7.false
