use Rattle.std.proofs.Common.{rules, tests, ◌≡◌}
use Rattle.std.specs.Option.{MatchOption}
use Rattle.date.specs.Scale.{day_count}
use Rattle.model.proofs.Single.{date_keyed}
use Rattle.model.proofs.fields.take_date_key.Goals as goal

pub returns : goal.returns
returns c =
    let k : MatchOption c.take_date-d.result.value (c.map_or.result ≡ 0) (λ d. c.map_or.result ≡ day_count d.0) = search (rules, tests) in
    date_keyed c.args.s.now c.args.p c.take_date-d.result.next c.map_or.result _ c.take_date-d.ensures k
