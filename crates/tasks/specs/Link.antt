-- What a lag and a link's kind mean. Assumes nothing.
use Rattle.std.specs.Prelude.{ℕ, pos}
use Rattle.std.specs.Prelude.{Some, None}
use Rattle.definition.specs.Link as D
use Rattle.tasks.specs.declared.link.Lag.{Lag}
use Rattle.tasks.specs.declared.link.Lag.TheVariants as lag
use Rattle.tasks.specs.declared.link.LinkKind.{LinkKind}
use Rattle.tasks.specs.declared.link.LinkKind.TheVariants as kind

-- the kinds of lag: 0 working time, 1 elapsed time, 2 a share of the predecessor's duration, and that share
abbrev pub lag_means : Lag → D.Lag
lag_means (lag.Days d) = record { days = d; minutes = None; kind = (0, None) }
lag_means (lag.Minutes m) = record { days = pos 0; minutes = Some m; kind = (0, None) }
lag_means (lag.Elapsed m) = record { days = pos 0; minutes = Some m; kind = (1, None) }
lag_means (lag.Share z) = record { days = pos 0; minutes = None; kind = (2, Some z) }

-- the model's code
abbrev pub link_kind_code : LinkKind → ℕ
link_kind_code kind.FinishToStart = 0
link_kind_code kind.StartToStart = 1
link_kind_code kind.FinishToFinish = 2
link_kind_code kind.StartToFinish = 3
