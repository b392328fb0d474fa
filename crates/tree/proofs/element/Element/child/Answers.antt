use Rattle.tree.proofs.Rows.{all_cut, all_whole}
use Rattle.tree.proofs.element.Element.child.Goals as goal

pub returns-in_err-h : goal.returns-in_err-h
returns-in_err-h c = rw c.from_residual.ensures (all_cut _ _ _ c.in_err-h.ensures)

pub returns : goal.returns
returns c = all_whole _ _ _ c.in_ok-h.ensures c.find.ensures
