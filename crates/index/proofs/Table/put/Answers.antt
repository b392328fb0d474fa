-- `index::put` meets its contract. What the five calls give together is the definition. Assumes nothing.
use Rattle.index.specs.Steps.{put_not}
use Rattle.index.proofs.Calls.{put_by}
use Rattle.index.proofs.Table.put.Goals as goal

pub returns-then-self-row : goal.returns-then-self-row
returns-then-self-row c =
    let a = c.args in
    put_not a.words.now a.self a.row a.hash a.place c.if-self-row.true

pub returns : goal.returns
returns c =
    let a = c.args in
    put_by a.words.now a.self a.row a.hash a.place c.if-self-row.false c.bucket-b.ensures c.word-head.ensures c.set_word.ensures c.set_word-2.ensures c.set_word-3.ensures
