use Rattle.calendars.proofs.Turning.{turns}
use Rattle.calendars.proofs.built.turn.Goals as goal

pub returns : goal.returns
returns c = let a = c.args in turns a.row a.start c.place_of_row-m.ensures c.place_of_row-e.ensures c.rotate.ensures
