-- `names::calendars::wanted_name` meets its contract. Assumes nothing.
use Rattle.std.proofs.Common.{rules}
use Rattle.definition.specs.Ascii.{bytes}
use Rattle.tree.specs.Place.{meaning}
use Rattle.names.proofs.Found.{wanted_not}
use Rattle.names.proofs.calendars.wanted_name.Goals as goal

pub returns-then-is_empty : goal.returns-then-is_empty
returns-then-is_empty c =
    let a = c.args in
    wanted_not (meaning a.e) (bytes "Name") a.unnamed.now c.text_of-n.ensures (search rules)
