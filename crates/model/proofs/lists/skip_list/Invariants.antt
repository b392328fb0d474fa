use Prim.Native.Nat.{◌≤◌}
use Rattle.model.specs.Rising.{Rose}
use Rattle.model.proofs.lists.skip_list.Given as goal

abbrev pub invariant-loop : goal.invariant-loop
invariant-loop g l = (l.counter ≤ l.end) × Rose g.T.Item.before g.T.Item.format g.T.Item.key l.s l.initial.q l.counter l.last l.q
