-- `names::calendars::CalendarNames::stars_of` meets its contract. Assumes nothing.
use Rattle.tree.specs.Place.{meaning}
use Rattle.tree.specs.Root.{root_at}
use Rattle.names.proofs.Found.{stars_row}
use Rattle.names.proofs.calendars.CalendarNames.stars_of.Goals as goal

pub returns : goal.returns
returns c =
    let a = c.args in
    stars_row a.self.out.now a.self.start (root_at a.self.root) a.row (meaning a.e) c.main_row.ensures c.section_row-k.ensures c.place_of_row-p.ensures c.stars_at.ensures
