-- `names::named::elapsed_in` meets its contract. Assumes nothing.
use Rattle.names.proofs.Answered.{elapsed_ready, elapsed_none}
use Rattle.names.proofs.named.elapsed_in.Goals as goal

pub returns-in-Some : goal.returns-in-Some
returns-in-Some c = elapsed_ready _ _ c.in-Some.is (rw c.name_at.ensures at c.word.ensures) c.by_word.result c.by_word.ensures

pub returns-in-None : goal.returns-in-None
returns-in-None c = elapsed_none _ _ c.in-None.is c.elapsed_named.ensures
