-- A missing text is read as the empty one is; a text that is there is not empty. Assumes nothing.
use Prim.Native.Nat.{suc}
use native.Mathlib.Omega.{arith}
use borrow.Author.Tests.{ne_eqb}
use mathlib.Core.Path.{◌≡◌, refl, ap, ◌∙◌, sym, subst}
use lib.Pointwise.{pointwise}
use Rattle.text.proofs.Equal.{same_is}
use Rattle.fields.specs.Answers.{other_text}
use Rattle.std.specs.Option.{MatchOption}
use mathlib.Core.Bool.{Bool, false, not}
use mathlib.Core.List.{[], ◌∷◌}
use Rattle.std.proofs.Common.{Bor}
use Rattle.std.specs.Prelude.{Option, Some, None, Ok, Err}
use Rattle.std.specs.Result.{result_ok}
use Rattle.std.specs.Bool.{then_some}
use Rattle.std.specs.Option.{option_map}
use lib.Dec.{eqb}
use lib.Ieee.{Float}
use lib.ListN.{length}
use Rattle.definition.specs.Base.{◌>>=◌, ◌or◌, given}
use Rattle.definition.specs.Text.{Text, signed_of, sign_of, digits, trim, trim_front, trim_back, strip, before, after}
use Rattle.definition.specs.Date.{date_of, date_parts, first_ten}
use Rattle.definition.specs.Number.{Reading, number_of, found, decimal_of}
use Rattle.definition.specs.declared.Duration.{Duration}
use Rattle.definition.specs.Duration.{duration_of, figures_of}
use Rattle.definition.specs.Tree.{Element, child, text_of, non_empty}
use Rattle.laws.specs.Options.{bind_or}

-- ---- read as the empty text

no_whole : signed_of 64 [] ≡ None
unfolding signed_of sign_of digits
no_whole = refl

no_date : date_of [] ≡ None
unfolding date_of date_parts first_ten trim trim_front trim_back strip before signed_of sign_of digits
no_date = refl

no_number : found (number_of []) ≡ None
unfolding number_of sign_of decimal_of before after digits
no_number = refl

no_duration : found (duration_of []) ≡ None
unfolding duration_of figures_of trim trim_front trim_back strip
no_duration = refl

read_or : {A : Type 0} (f : Text → Reading A) → found (f []) ≡ None → (o : Option Text) {t : Text} → t ≡ (o or []) → {a : Reading A} → a ≡ f t → found a ≡ (o >>= λ t. found (f t))
read_or {A} f z o e h =
    ap (λ (a : Reading A). found a) h ∙ ap (λ (t : Text). found (f t)) e ∙ bind_or (λ (t : Text). found (f t)) z o

ok_found : {A : Type 0} (a : Reading A) → result_ok a ≡ found a
ok_found (Ok x) = refl
ok_found (Err e) = refl

-- t is what `text_of` or `own_text` gives
module _ (o : Option Text) (t : Text) (e : t ≡ (o or [])) where
  pub whole_or : signed_of 64 t ≡ (o >>= signed_of 64)
  whole_or = ap (signed_of 64) e ∙ bind_or (signed_of 64) no_whole o

  pub date_or_lem : date_of t ≡ (o >>= date_of)
  date_or_lem = ap date_of e ∙ bind_or date_of no_date o

  pub number_or : {r : Option Float} {a : Reading Float} → r ≡ result_ok a → a ≡ number_of t → r ≡ (o >>= λ t. found (number_of t))
  number_or {a = a} g h = g ∙ ok_found a ∙ read_or number_of no_number o e h

  -- what is asked of a duration
  pub duration_or : {A : Type 0} (f : Option Duration → A) {r : A} {a : Reading Duration} → r ≡ f (found a) → a ≡ duration_of t → r ≡ f (o >>= λ t. found (duration_of t))
  duration_or f g h = g ∙ ap f (read_or duration_of no_duration o e h)

-- ---- given

filled : (t : Text) → not (eqb (length (non_empty t or [])) 0) ≡ given (non_empty t)
filled [] = refl
filled (b ∷ t) = rw (ne_eqb (suc (length t)) 0 (λ e. omega arith))

pub length_given : (e : Element) (n : Text) → not (eqb (length (text_of e n or [])) 0) ≡ given (text_of e n)
unfolding text_of
length_given e n = by (child e n)
  where
    by : (o : Option Element) → not (eqb (length ((o >>= λ c. non_empty (trim c.text)) or [])) 0) ≡ given (o >>= λ c. non_empty (trim c.text))
    by None = refl
    by (Some c) = filled (trim c.text)

-- the text itself, where it is given
pub said_if : (o : Option Text) (t : Bor Text) → t.now ≡ (o or []) → {b : Bool} → b ≡ given o → {r : Option (Bor Text)} → r ≡ then_some b t → option_map (λ t. t.now) r ≡ o
said_if None t i e h = rw (h, e)
said_if (Some u) t i e h = rw (h, e) (ap Some i)

-- a text other than v
pub other_if : (o : Option (Bor Text)) (v : Text) {t : Option Text} {r : Bool} {P : Bor Text → Type 0} → option_map (λ t. t.now) o ≡ t → MatchOption o (r ≡ false) P
    → ((x : Bor Text) → P x → r ≡ not (pointwise eqb x.now v)) → r ≡ other_text t v
other_if None v {r = r} e h k = subst (λ (t : Option Text). r ≡ other_text t v) e h
other_if (Some x) v {r = r} e h k = subst (λ (t : Option Text). r ≡ other_text t v) e (k x h ∙ ap not (sym (same_is x.now v)))
