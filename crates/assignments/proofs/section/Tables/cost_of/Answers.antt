use Rattle.tree.specs.Root.{root_at}
use Rattle.rows.specs.Rows.{found_meaning}
use Rattle.rows.specs.Tables.{cost_in}
use Rattle.assignments.proofs.Given.{look_not, look_up}
use Rattle.assignments.proofs.section.Tables.cost_of.Goals as goal

pub returns-in_err-uid : goal.returns-in_err-uid
unfolding found_meaning
returns-in_err-uid c =
    let a = c.args in
    rw c.from_residual.ensures (look_not _ c.text_in.ensures (cost_in a.self.root.tree.now (root_at a.self.root) a.words.now a.self.cost) c.in_err-uid.was)

pub returns : goal.returns
returns c =
    let a = c.args in
    look_up _ c.text_in.ensures (cost_in a.self.root.tree.now (root_at a.self.root) a.words.now a.self.cost) c.in_ok-uid.was c.cost_with.ensures.is
