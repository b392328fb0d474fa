-- `outline::parents::walk_model` meets its contract: the places as model::open has them, the activities passed over by `fill`. Assumes nothing.
use Rattle.model.specs.Lax.{like_times}
use Rattle.model.specs.Passes.{pass_like}
use Rattle.model.specs.Parts.{strict_activities}
use Rattle.model.specs.Sections.{walks}
use Rattle.outline.proofs.parents.walk_model.Goals as goal

pub returns : goal.returns
returns c =
    let h = c.walk_head-head.ensures in
    let f = c.fill-links.ensures in
    let b = c.walk_behind.ensures in
    record { walks = walks h (pass_like (like_times _ strict_activities) f.passes) b; filled = rw (b.activities_at, b.links_at) f }
