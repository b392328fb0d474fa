use Rattle.std.proofs.Common.{◌≡◌, ◌+◌, ◌<◌, ◌^◌, length, arith}
use Rattle.std.proofs.lemmas.Iterator.Consumers.{count_from_yields_List}
use mathlib.Core.Logic.{inl}
use Rattle.rows.specs.Lists.{gives_list}
use Rattle.rows.specs.Tables.{elements_left, ElementsOf}
use Rattle.rows.proofs.table.count_items.Goals.{After-count}
use Rattle.rows.proofs.table.count_items.Goals as goal

counted : (c : After-count) → c.count.result ≡ length (elements_left c.args.items)
counted c = count_from_yields_List _ _ c.count.ensures.ran (gives_list ElementsOf elements_left c.args.items)

pub count-requires-clause-fits : goal.count-requires-clause-fits
count-requires-clause-fits c =
    let few : 0 + length (elements_left c.args.items) < 2 ^ 64 = omega (arith, c.requires) in
    inl few

pub overflow_cast-result : goal.overflow_cast-result
overflow_cast-result c = omega (arith, counted (goal.at.overflow_cast-result c).After-count, c.requires)

pub returns : goal.returns
returns c = counted (goal.at.returns c).After-count
