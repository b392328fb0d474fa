use Rattle.std.proofs.Common.{◌∙◌}
use Rattle.tree.specs.Root.{root_at}
use Rattle.rows.specs.Turns.{kept_all, kept_behind, past_in}
use Rattle.rows.proofs.Walking.{place_at}
use Rattle.rows.proofs.kept.KeptTasks.following.Goals as goal

pub returns-in-None-clause-is : goal.returns-in-None-clause-is
returns-in-None-clause-is c = kept_all (root_at c.args.self.root) c.in-None.is ∙ c.first_kept.ensures.is

pub returns-in-Some-clause-is : goal.returns-in-Some-clause-is
returns-in-Some-clause-is c = kept_behind (root_at c.args.self.root) c.in-Some.is ∙ c.next_kept.ensures.is

pub returns-in-Some-clause-there : goal.returns-in-Some-clause-there
returns-in-Some-clause-there c = λ h. rw (past_in (place_at c.in-Some.is) h).tree at c.next_kept.ensures.there
