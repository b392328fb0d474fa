use Rattle.std.proofs.Common.{◌∙◌, arith}
use Rattle.rows.specs.Small.{small_root}
use Rattle.tree.specs.Root.{root_at}
use Rattle.calendars.proofs.Builts.{calendars_if}
use Rattle.calendars.proofs.built.put_calendars.Goals as goal

pub returns : goal.returns
returns c =
    let a = c.args in
    record {
      written = calendars_if (root_at a.root) {p = a.p} c.count_calendars-n.ensures (small_root a.root c.are_bytes.ensures.bytes) (omega arith) (omega arith) c.put_built-done.ensures.built c.turn_main.ensures c.put_elapsed.ensures;
      clears = c.fill_from-2.ensures ∙ c.put_built-done.ensures.kept;
    }
