-- `index::mix_all` meets its contract. The invariant: the state after k times eight bytes. Assumes nothing.
use mathlib.Core.Path.{◌≡◌}
use Prim.Native.Nat.{◌≤◌}
use Rattle.index.specs.Hash.{hash_after}
use Rattle.laws.specs.Stars.{starred_by}
use Rattle.index.proofs.mix_all.Given as goal

abbrev pub invariant-loop-k : goal.invariant-loop-k
invariant-loop-k l = (l.k ≤ l.rounds) × (l.h ≡ hash_after (starred_by l.s l.stars) l.k)
