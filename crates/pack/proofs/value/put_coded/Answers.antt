use mathlib.Core.Path.{ap, ◌∙◌}
use Rattle.bits.specs.Steps.{put_alone, put_both}
use Rattle.pack.proofs.value.put_coded.Goals as goal

pub returns-in-Some : goal.returns-in-Some
returns-in-Some g c =
    λ lo hi has. rw (ap g.T.Put.given c.in-Some.is ∙ g.met.T.Put.of_some _) (put_both has (c.put_code-q.ensures lo hi) c.put.ensures)

pub returns-in-None : goal.returns-in-None
returns-in-None g c =
    λ lo hi has. rw (ap g.T.Put.given c.in-None.is ∙ g.met.T.Put.of_none) (put_alone has g.T.Put.format (c.put_code-q.ensures lo hi))
