-- What the library's consumers tell of an iterator over siblings: the list that it goes through. Assumes nothing.
use Rattle.std.specs.Prelude.{◌≡◌, Bool, List, [], ◌∷◌, refl, ◌||◌}
use Rattle.std.proofs.Common.{ap}
use Rattle.std.proofs.lemmas.Iterator.{YieldsList}
use Rattle.std.proofs.lemmas.Iterator.Consumers.{YieldsList-from_first}
use Rattle.std.specs.Iterator.{YieldsFirstBy}
use Rattle.std.specs.List.{list_any}
use Rattle.definition.specs.Base.{some?}
use Rattle.tree.specs.Place.{meaning, left}
use Rattle.tree.specs.declared.element.Children.{Children}

pub children_list : (c : Children) → YieldsList (YieldsFirstBy meaning left) meaning c (left c)
children_list c = YieldsList-from_first meaning left (left c) refl

-- `any`, in the definition's word
pub any_is : {A : Type 0} (p : A → Bool) (l : List A) → list_any p l ≡ some? p l
unfolding some?
any_is p [] = refl
any_is p (x ∷ l) = ap (λ (b : Bool). p x || b) (any_is p l)
