use Prim.Native.Nat.{ℕ, ◌-◌}
use mathlib.Core.List.{List}
use mathlib.Core.Path.{refl, ap, sym, ◌∙◌}
use Rattle.std.specs.Prelude.{slice_get}
use Rattle.std.proofs.Common.{rules, tests}
use Rattle.std.proofs.lemmas.Iterator.{YieldsList-from_range}
use Rattle.std.proofs.lemmas.Iterator.Adapters.{option_map_id}
use Rattle.std.proofs.lemmas.Iterator.Consumers.{YieldsList-from_filter, nth_from_yields_List}
use lib.IntN.{pos}
use Rattle.definition.specs.Recurrence.{item_fits}
use Rattle.recurrence.proofs.Items.{filtered_run}
use Rattle.recurrence.proofs.position.nth_fit.Goals as goal

pub returns : goal.returns
returns c =
    let a = c.args in
    let p = item_fits (pos a.item) in
    sym (option_map_id c.nth.result)
    ∙ nth_from_yields_List c.nth.result _ a.position c.nth.ensures.ran (YieldsList-from_filter _ p (YieldsList-from_range a.first a.end (a.end - a.first) c.filter.ensures.source refl) c.filter.ensures.closure (λ x b q k. search (rules, tests)))
    ∙ ap (λ (l : List ℕ). slice_get l a.position) (filtered_run p a.first (a.end - a.first))
