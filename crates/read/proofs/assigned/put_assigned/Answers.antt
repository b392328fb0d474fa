use Rattle.read.proofs.Tables.{tasked_from, assignments_written, expenses_written}
use Rattle.read.proofs.assigned.put_assigned.Goals as goal

pub index_resources-tables-requires : goal.index_resources-tables-requires
index_resources-tables-requires c = tasked_from c.requires c.end_of-at.ensures c.put_resources-resources.ensures.1

pub returns : goal.returns
returns c =
    let t = c.index_resources-tables.ensures in
    record {
      d1 = _;
      d2 = _;
      resources_put = c.put_resources-resources.ensures.0;
      assignments_put = assignments_written t.root t.finds c.put_assignments-assignments.ensures;
      expenses_put = expenses_written t.root t.finds c.put_expenses-expenses.ensures.0;
    }
