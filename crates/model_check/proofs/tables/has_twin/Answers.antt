-- `model_check::tables::has_twin` meets its contract. Assumes nothing.
use mathlib.Core.Path.{ap, ◌∙◌}
use Rattle.std.proofs.Common.{rules}
use Prim.Native.Nat.{ℕ}
use lib.ListN.{get_or}
use Rattle.definition.specs.Base.{given, find}
use Rattle.index.specs.Chains.{chain}
use Rattle.model_check.specs.Keys.{Key, no_key, same_key}
use Rattle.model_check.proofs.Tabled.{key_there, next_in, some_twin, lone}
use Rattle.model_check.proofs.tables.has_twin.Goals as goal

pub returns-then-is_none : goal.returns-then-is_none
returns-then-is_none g c =
    λ ks x h. lone x _ h c.next-from.ensures (search rules)

pub returns : goal.returns
returns g c =
    let a = c.args in
    λ ks x h.
    let t = key_there x _ _ h c.place-byte.ensures in
    c.chain_has_key.ensures ks x (next_in x h c.next-from.ensures) ∙ ap (λ (k : Key). given (find (λ (r : ℕ). same_key k (get_or ks r no_key)) (chain a.index.words.now a.index.table c.next-from.result))) (c.key_at-key.ensures _ t) ∙ some_twin x _ h c.next-from.ensures
