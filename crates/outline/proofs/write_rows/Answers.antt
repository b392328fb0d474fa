-- `outline::write_rows` meets its contract. Assumes nothing.
use Rattle.outline.proofs.Whole.{wrote_all}
use Rattle.outline.proofs.write_rows.Goals as goal

pub returns : goal.returns
returns c =
    let a = c.args in
    wrote_all a.n a.rows.now a.work.now c.requires.0 c.requires.1 c.empty_lists.ensures c.link_rows.ensures c.walk.ensures
