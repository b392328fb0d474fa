-- `model_check::walk::walk_model` meets its contract. Assumes nothing.
use Rattle.model_check.proofs.Walking.{walked}
use Rattle.model_check.proofs.walk.walk_model.Goals as goal

pub returns : goal.returns
returns c =
    walked c.walk_head-head.ensures c.index_keys-names.ensures c.end_of.ensures c.empty_table-ids.ensures c.judge_activities-a.ensures c.walk_behind-places.ensures
