-- What callers learn from `child` and `next`, by the answer that they are in. Assumes nothing.
use Rattle.std.specs.Prelude.{◌≡◌, List, [], ◌∷◌, ℕ, Option, Some, None}
use Rattle.std.proofs.Common.{◌∙◌}
use Rattle.definition.specs.Base.{first}
use Rattle.definition.specs.Text.{Text}
use Rattle.definition.specs.Tree as D
use Rattle.definition.specs.Tree.{all, child}
use Rattle.tree.specs.Place.{meaning, later, list_of, Past, Within, Starts}
use Rattle.tree.specs.declared.element.Element.{Element}

module _ {s n : Text} {l : List D.Element} {m : ℕ} {r : Option Element} (h : Starts s n l m r) where
  pub found_list : {x : Element} → r ≡ Some x → l ≡ meaning x ∷ later n x
  unfolding list_of
  found_list e = h.is ∙ rw e

  pub none_list : r ≡ None → l ≡ []
  unfolding list_of
  none_list e = h.is ∙ rw e

  pub found_on : {x : Element} → r ≡ Some x → Within s m x
  unfolding Past
  found_on e = rw e at h.on

module _ {s n : Text} (el : D.Element) {m : ℕ} {r : Option Element} (h : Starts s n (all el n) m r) where
  pub found_child : {x : Element} → r ≡ Some x → child el n ≡ Some (meaning x)
  unfolding child first
  found_child e = rw (found_list h e)

  pub none_child : r ≡ None → child el n ≡ None
  unfolding child first
  none_child e = rw (none_list h e)
