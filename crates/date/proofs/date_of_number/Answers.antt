use Rattle.date.specs.Answer.{placed}
use Rattle.definition.specs.Date.{epoch, first_date, last_date}
use mathlib.Core.Path.{◌∙◌, ap}
use Rattle.date.proofs.Signs.{back, days_placed}
use Rattle.date.proofs.date_of_number.Goals as goal

pub returns : goal.returns
returns c = rw days_placed (c.place.ensures ∙ ap (placed epoch first_date last_date) (back c.args.n c.ranges.n))
