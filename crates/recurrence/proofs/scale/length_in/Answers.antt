use mathlib.Core.Path.{ap, ◌∙◌}
use native.Mathlib.Omega.{arith}
use Prim.Native.Nat.{ℕ}
use Rattle.std.specs.Prelude.{Option, unwrap_or}
use Rattle.date.proofs.Signs.{difference_back}
use Rattle.recurrence.proofs.Counts.{length_by_lem}
use Rattle.recurrence.proofs.scale.length_in.Goals as goal

pub returns : goal.returns
returns c =
    let e = difference_back c.args.y 10000 (omega (arith, c.requires.year.1)) (omega arith) c.year_number.result c.year_number.ensures in
    c.unwrap_or.ensures
    ∙ ap (λ (o : Option ℕ). unwrap_or o 0) (c.days_in_month.ensures ∙ length_by_lem c.args.y c.args.m c.requires.year c.requires.month _ e)
