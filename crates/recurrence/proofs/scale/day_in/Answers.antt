use mathlib.Core.Path.{◌∙◌}
use native.Mathlib.Omega.{arith}
use Rattle.date.proofs.Signs.{difference_back}
use Rattle.recurrence.proofs.Counts.{count_said, day_by_lem}
use Rattle.recurrence.proofs.scale.day_in.Goals as goal

pub returns : goal.returns
returns c =
    let e = difference_back c.args.y 10000 (omega (arith, c.requires.year.1)) (omega arith) c.year_number.result c.year_number.ensures in
    c.count_by.ensures
    ∙ count_said c.from_ymd.result _ c.from_ymd.ensures
    ∙ (day_by_lem c.args.y c.args.m c.requires.year c.requires.month _ e c.args.day)
