use Rattle.calendar_days.proofs.Elements.{items_begun, items_there, items_few}
use Rattle.calendar_days.proofs.exceptions.Exceptions.of.Goals as goal

pub returns : goal.returns
returns c =
    let e = c.args.calendar in
    let w = c.first_in.ensures in
    let x = c.first_in-2.ensures in
    record { are = items_begun e w x; of = items_there e w x; few = items_few e w x }
