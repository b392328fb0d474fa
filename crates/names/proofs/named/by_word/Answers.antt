-- `names::named::by_word` meets its contract. Assumes nothing.
use Rattle.names.proofs.Answered.{word_lem}
use Rattle.names.proofs.named.by_word.Goals as goal

pub returns : goal.returns
returns c = word_lem c.args.word _ c.checked_sub.ensures
