use Prim.Native.Nat.{◌-◌}
use mathlib.Core.Path.{sym, ◌∙◌}
use Rattle.std.proofs.Common.{rules, tests}
use Rattle.std.proofs.lemmas.Iterator.Adapters.{option_map_id}
use Rattle.std.proofs.lemmas.Iterator.Search.{find_from_yields_List}
use lib.IntN.{pos}
use Rattle.definition.specs.Recurrence.{item_fits}
use Rattle.recurrence.proofs.Items.{yields_down, found_down}
use Rattle.recurrence.proofs.position.last_fit.Goals as goal

pub returns : goal.returns
returns c =
    let a = c.args in
    let p = item_fits (pos a.item) in
    sym (option_map_id c.find.result)
    ∙ find_from_yields_List p c.find.new.self _ c.find.result c.find.ensures.ran (yields_down c.rev.result a.first a.end c.rev.ensures.source) (λ x b q k. search (rules, tests))
    ∙ found_down p a.first (a.end - a.first)
