use Rattle.tree.proofs.Rows.{nth_cut, nth_whole}
use Rattle.tree.proofs.element.Element.nth_next.Goals as goal

pub returns-in_err-h : goal.returns-in_err-h
returns-in_err-h c = rw c.from_residual.ensures (nth_cut _ _ _ c.args.n c.in_err-h.ensures)

pub returns : goal.returns
returns c = nth_whole _ _ _ c.in_ok-h.ensures c.args.n c.find_nth.ensures
