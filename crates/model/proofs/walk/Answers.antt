-- Between `walk_head` and `walk_behind` a reader passes over the activities. Assumes nothing.
use Rattle.model.specs.Lax.{like_times}
use Rattle.model.specs.Passes.{pass_like}
use Rattle.model.specs.Parts.{strict_activities}
use Rattle.model.specs.Sections.{walks}
use Rattle.model.proofs.walk.Goals as goal

pub returns : goal.returns
returns c = walks c.walk_head-head.ensures (pass_like (like_times _ strict_activities) c.past_records-links.ensures.1) c.walk_behind.ensures
