use Rattle.date.specs.Answer.{placed}
use mathlib.Core.Path.{◌∙◌, ap}
use Rattle.date.proofs.Signs.{back, year_placed}
use Rattle.date.proofs.year_at.Goals as goal

pub returns : goal.returns
returns c = rw year_placed (c.place.ensures ∙ ap (placed 10000 1 19999) (back c.args.year c.ranges.year))
