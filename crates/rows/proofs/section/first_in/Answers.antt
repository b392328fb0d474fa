use Rattle.tree.specs.Place.{meaning}
use Rattle.tree.specs.Answer.{found_child, none_child, found_on}
use Rattle.rows.proofs.Walking.{section_none, section_found}
use Rattle.rows.proofs.section.first_in.Goals as goal

pub returns-in_err-child : goal.returns-in_err-child
returns-in_err-child c = rw c.from_residual.ensures (section_none (none_child (meaning c.args.e) c.child.ensures c.in_err-child.was))

pub returns : goal.returns
returns c = section_found (found_child (meaning c.args.e) c.child.ensures c.in_ok-child.was) (found_on c.child.ensures c.in_ok-child.was) c.child-2.ensures
