-- One step of an iterator over children. Assumes nothing.
use mathlib.Core.Path.{◌≡◌, ◌∙◌}
use mathlib.Core.List.{List, [], ◌∷◌}
use Prim.Native.Nat.{ℕ, ◌<◌}
use native.Mathlib.Omega.{arith}
use lib.ListN.{length}
use Rattle.std.specs.Prelude.{Option, Some, None}
use Rattle.definition.specs.Text.{Text}
use Rattle.definition.specs.Tree as D
use Rattle.definition.specs.Tree.{all}
use Rattle.tree.specs.Place.{meaning, later, list_of, behind, Starts}
use Rattle.tree.specs.declared.element.Element.{Element}

module _ (n : Text) (el : D.Element) {last : Option Element} {s : Text} {m : ℕ} {r : Option Element} where
  pub left_all : last ≡ None → Starts s n (all el n) m r → behind n el last ≡ list_of n r
  unfolding behind
  left_all e h = rw e h.is

  pub left_behind : {x : Element} → last ≡ Some x → Starts s n (later n x) m r → behind n el last ≡ list_of n r
  unfolding behind
  left_behind e h = rw e h.is

module _ (n : Text) {l : List D.Element} {r : Option Element} (h : l ≡ list_of n r) where
  pub left_none : r ≡ None → l ≡ []
  unfolding list_of
  left_none e = h ∙ rw e

  module _ (el : D.Element) {x : Element} (e : r ≡ Some x) where
    pub left_step : l ≡ meaning x ∷ behind n el (Some x)
    unfolding list_of behind
    left_step = h ∙ rw e

    pub left_less : length (behind n el (Some x)) < length l
    left_less = rw left_step (omega arith)
