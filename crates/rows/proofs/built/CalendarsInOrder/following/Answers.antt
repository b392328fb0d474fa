use Rattle.std.proofs.Common.{◌∙◌}
use Rattle.tree.specs.Root.{root_at}
use Rattle.rows.specs.Turns.{order_all, order_behind, past_in}
use Rattle.rows.proofs.built.CalendarsInOrder.following.Goals as goal

pub returns-in-None-clause-is : goal.returns-in-None-clause-is
returns-in-None-clause-is c = order_all (root_at c.args.self.root) c.in-None.is ∙ c.first_calendar.ensures.is

pub returns-in-Some-clause-is : goal.returns-in-Some-clause-is
returns-in-Some-clause-is c = order_behind (root_at c.args.self.root) c.in-Some.is ∙ c.next_calendar.ensures.is

pub returns-in-Some-clause-there : goal.returns-in-Some-clause-there
returns-in-Some-clause-there c = λ h. c.next_calendar.ensures.there (past_in c.in-Some.is h).tree
