use mathlib.Core.Path.{ap, ◌∙◌}
use Rattle.pack.proofs.Puts.{put_given_lem, put_missing}
use Rattle.pack.proofs.value.put_optional.Goals as goal

pub returns-in-Some : goal.returns-in-Some
returns-in-Some g c =
    put_given_lem (ap g.T.Put.given c.in-Some.is ∙ g.met.T.Put.of_some _) c.put_flag-q.ensures c.put.ensures

pub returns-in-None : goal.returns-in-None
returns-in-None g c =
    put_missing g.T.Put.format (ap g.T.Put.given c.in-None.is ∙ g.met.T.Put.of_none) c.put_flag.ensures
