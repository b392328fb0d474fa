use mathlib.Core.Path.{ap, ◌∙◌}
use native.Mathlib.Omega.{arith}
use Rattle.definition.specs.Date.{year_of, ymd_of, day_number}
use Rattle.definition.specs.declared.Ymd.{Ymd}
use Rattle.date.proofs.Signs.{difference_back}
use Rattle.date.specs.Scale.{at_most_lem}
use Rattle.recurrence.proofs.Bounds.{year_last}
use Rattle.recurrence.proofs.Counts.{ymd_is, ymd_there, year_same}
use Rattle.recurrence.proofs.scale.month_on.Goals as goal

pub year_count-requires : goal.year_count-requires
unfolding ymd_of day_number
year_count-requires c =
    let d = c.args.d in
    let e = ymd_is d c.requires _ (at_most_lem c.at_count.ensures (omega (arith, c.requires.high))) c.ymd.result c.ymd.ensures _ c.in-Some.is in
    let l = year_last d c.requires.high in
    record { year = year_of d; number = difference_back (year_of d) 10000 (omega arith) (omega arith) _ (ap (λ (v : Ymd). v.year) e); most = l }

pub returns : goal.returns
unfolding ymd_of day_number
returns c =
    let d = c.args.d in
    let e = ymd_is d c.requires _ (at_most_lem c.at_count.ensures (omega (arith, c.requires.high))) c.ymd.result c.ymd.ensures _ c.in-Some.is in
    let l = year_last d c.requires.high in
    let n = year_same c.year_count.result (year_of d) (c.year_count.ensures ∙ difference_back (year_of d) 10000 (omega arith) (omega arith) _ (ap (λ (v : Ymd). v.year) e)) in
    λ i. record { year = n i; month = (e i).month }

pub returns-in_default : goal.returns-in_default
unfolding day_number
returns-in_default c =
    absurd (ymd_there c.args.d c.requires _ (at_most_lem c.at_count.ensures (omega (arith, c.requires.high))) c.ymd.result c.ymd.ensures c.in_default.is)
