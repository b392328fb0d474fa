-- The lag and the link that are read from an element fit. Assumes nothing.
use Rattle.std.specs.Prelude.{if◌then◌else◌, Bool, true, false, ℕ, ◌^◌, ◌<◌, ℤ}
use Rattle.std.proofs.Math.IntN.{pos}
use Rattle.definition.specs.Base.{◌or◌}
use Rattle.definition.specs.Tree.{Element}
use Rattle.definition.specs.Field.{int_in}
use Rattle.definition.specs.Task.{Context, format_of, percent_format, elapsed_format}
use Rattle.definition.specs.Link.{held_by, cut, working_lag, elapsed_lag, percent_lag, lag_of, link_of}
use Rattle.laws.specs.FitRecords.{FitsLink}
use Rattle.laws.specs.FitAmounts.{UpTo, held_up_to, cut_up_to}
use Rattle.laws.specs.FitActivities.{link_kind_lem, FitsLag, working_in, elapsed_in_lem, percent_in}

-- ---- a link

lag_in : (per_day format : ℕ) (z : ℤ) → UpTo 100000000000 z → FitsLag (lag_of per_day format z)
unfolding lag_of
lag_in per_day format z h = by (percent_format format) (elapsed_format format)
  where
    by : (t u : Bool) → FitsLag (if t then percent_lag z else if u then elapsed_lag (cut z 10) else working_lag per_day (cut z 10))
    by true u = percent_in z
    by false true = elapsed_in_lem (cut z 10) (cut_up_to 100000000000 z 10 h)
    by false false = working_in (cut z 10) (cut_up_to 100000000000 z 10 h) per_day

pub fit_link : (x : Context) (p q : ℕ) (l : Element) → p < 2 ^ 32 → q < 2 ^ 32 → FitsLink (link_of x p q l)
unfolding link_of
fit_link x p q l h k =
    let g = lag_in x.per_day (format_of l "LagFormat") (held_by 100000000000 (int_in l "LinkLag" or pos 0)) (held_up_to 100000000000 (int_in l "LinkLag" or pos 0)) in
    (h, (k, (link_kind_lem (int_in l "Type" or pos 1), (g.days, (g.minutes, g.kind)))))
