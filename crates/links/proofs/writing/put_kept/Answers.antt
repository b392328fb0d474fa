use Rattle.std.proofs.Common.{refl, ap, ◌∙◌}
use Rattle.definition.specs.Link.{Lag}
use Rattle.tree.specs.Place.{meaning}
use Rattle.links.proofs.Links.{put_one}
use Rattle.links.proofs.writing.put_kept.Goals as goal

pub returns : goal.returns
returns c =
    let a = c.args in
    rw c.more.ensures (put_one a.per_day a.row (meaning a.link) (record { predecessor = a.predecessor; successor = a.row; kind = c.from.result; lag = c.from-2.result }) (c.from.ensures ∙ c.link_kind.ensures) (c.from-2.ensures ∙ ap (λ (m : Lag). (m.days, (m.minutes, m.kind))) c.link_lag.ensures) refl c.put.ensures refl)
