use Rattle.std.proofs.Common.{◌≡◌, ℕ, ◌<◌, Bool, true, false, length, get_or, rules, tests, List, ap, ◌∙◌}
use Rattle.std.proofs.lemmas.Iterator.{cases_from_any}
use Rattle.definition.specs.Base.{given, find}
use Rattle.index.specs.Lists.{chain_list, chain_below, any_is}
use Rattle.model_check.specs.Keys.{key_of, no_key, same_key}
use Rattle.model_check.proofs.Tabled.{any_below, key_there}
use Rattle.model_check.proofs.tables.chain_has_key.Goals as goal

pub returns : goal.returns
returns g c =
    λ ks x u.
    let a = c.args in
    let rows = c.chain_from.result in
    let has : ℕ → Bool = λ r. same_key (key_of a.key) (get_or ks r no_key) in
    let told : Bool → ℕ → Type 0 = λ b r. r < length ks → b ≡ has r in
    any_below has (length ks) _ (rw c.chain_from.ensures (chain_below a.index.words.now a.index.table a.from u)) c.any.result
    (cases_from_any c.any.new.self _ c.any.result (told true) (told false) c.any.ensures.ran (chain_list rows) (λ r q k l. search (rules, tests, key_there x)) (λ r q k. search (rules, tests, key_there x)))
    ∙ any_is has _
    ∙ ap (λ (l : List ℕ). given (find has l)) c.chain_from.ensures
