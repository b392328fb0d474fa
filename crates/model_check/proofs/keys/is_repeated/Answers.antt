-- `model_check::keys::is_repeated` meets its contract. Assumes nothing.
use mathlib.Core.Path.{ap, ◌∙◌}
use Rattle.definition.specs.Base.{some?}
use Rattle.model_check.specs.Keys.{Key, same_key}
use Rattle.model_check.proofs.keys.is_repeated.Goals as goal

pub returns : goal.returns
returns g c =
    λ of k a h xs end r.
    c.some_has_key.ensures of k xs end r ∙ ap (λ (n : Key). some? (λ x. same_key n (of x)) xs) (c.key_at.ensures (of a) (k.first h))
