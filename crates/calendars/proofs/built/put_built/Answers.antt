use Rattle.calendars.proofs.Builts.{tables_begin, built_put}
use Rattle.calendars.proofs.built.put_built.Goals as goal

pub returns : goal.returns
returns c =
    let (written, cleared) = built_put (tables_begin c.args.root c.args.rows c.index_uids-made.ensures c.ids_for-ids.ensures c.end_of_ids.ensures) c.put-done.ensures c.or_default.ensures in
    record { built = written; kept = cleared }
