-- A text that is there is not empty. Assumes nothing.
use Rattle.std.specs.Prelude.{◌≡◌, Bool, true, false, not, [], length, ◌==◌, ◌≢◌}
use Rattle.std.proofs.Common.{sym, ap, ◌∙◌, eq-eqb, ne_eqb}
use Rattle.definition.specs.Base.{◌or◌, given}
use Rattle.definition.specs.Text.{Text}
use Rattle.definition.specs.Tree.{Element, text_of}
use Rattle.fields.proofs.Empty.{length_given}

-- t is what `text_of` gives
module _ (e : Element) (name t : Text) (i : t ≡ (text_of e name or [])) where
  given_by : {b : Bool} → (length t == 0) ≡ b → given (text_of e name) ≡ not b
  given_by h = sym (length_given e name) ∙ ap (λ (t : Text). not (length t == 0)) (sym i) ∙ ap not h

  pub given_none : length t ≡ 0 → given (text_of e name) ≡ false
  given_none h = given_by (eq-eqb (length t) 0 h)

  pub given_some : (length t ≢ 0) → given (text_of e name) ≡ true
  given_some h = given_by (ne_eqb (length t) 0 h)
