use Rattle.tree.specs.Root.{root_at}
use Rattle.names.proofs.Wording.{by_table, by_scan}
use Rattle.names.proofs.uids.calendar_by.Goals as goal

pub returns-in-Some-clause-is : goal.returns-in-Some-clause-is
returns-in-Some-clause-is c =
    let a = c.args in by_table a.root.tree.now (root_at a.root) _ a.uid.now c.in-Some.is c.seek.ensures c.in_order.ensures.is

pub returns-in-None-clause-is : goal.returns-in-None-clause-is
returns-in-None-clause-is c =
    let a = c.args in by_scan a.root.tree.now (root_at a.root) _ a.uid.now c.in-None.is c.calendar_with.ensures.is
