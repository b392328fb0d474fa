use Rattle.std.proofs.Common.{rules}
use mathlib.Core.Path.{◌≡◌, ◌∙◌, ap}
use mir.Syntax.{w32}
use mir.Val.{SFits}
use Rattle.definition.specs.Date.{ymd_of, from_days}
use Rattle.date.specs.Answer.{ymd_at}
use Rattle.date.proofs.Signs.{back, mapped}
use Rattle.date.proofs.ymd.Goals as goal

pub returns : goal.returns
unfolding ymd_at
returns c =
    let f : SFits w32 c.args.d.0 = search rules in
    let e : c.date_of_number.result ≡ from_days c.args.d.0 = c.date_of_number.ensures ∙ ap from_days (back c.args.d.0 f) in
    rw (← e) (mapped ymd_of c.date_of_number.result c.map.result c.map.ensures.cases)
