use Rattle.laws.specs.Calendar.{new_year_lem as january}
use Rattle.date.proofs.Steps.{less}
use Rattle.date.proofs.new_year.Goals as goal

pub returns : goal.returns
returns c = less _ _ _ (january c.args.y)
