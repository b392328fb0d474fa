use Rattle.std.proofs.Common.{◌≡◌}
use Rattle.std.specs.Prelude.{IfSome}
use Rattle.definition.specs.Base.{find_last}
use Rattle.rows.specs.Rows.{has_uid}
use Rattle.rows.specs.Tables.{elements_left, ElementsOf}
use Rattle.rows.proofs.Lasts.{LastIn}
use Rattle.rows.proofs.resource.cost_resource.Given as goal

abbrev pub invariant-loop-e : goal.invariant-loop-e
invariant-loop-e l =
    LastIn (has_uid l.uid) (find_last (has_uid l.uid) (elements_left l.initial.e-iterator)) (elements_left l.e-iterator) l.found
    × ElementsOf l.e-iterator l.root.tree.now
    × IfSome l.found (λ e. e.tree.now ≡ l.root.tree.now)
