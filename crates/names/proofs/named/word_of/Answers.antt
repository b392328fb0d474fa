-- `names::named::word_of` meets its contract. Assumes nothing.
use Rattle.names.proofs.Wording.{word_main, word_other}
use Rattle.names.proofs.named.word_of.Goals as goal

pub returns-then-same_starred : goal.returns-then-same_starred
returns-then-same_starred c = word_main c.args.main c.args.text.now c.args.stars c.same_starred.ensures c.if-same_starred.true

pub returns : goal.returns
returns c = word_other c.args.main c.args.text.now c.args.stars c.same_starred.ensures c.if-same_starred.false
