-- What custom fields hold changes no model, which elements are related, and the examples. Assumes nothing.
use Rattle.std.specs.Prelude.{if◌then◌else◌, ◌≡◌, refl, Bool, true, false}
use Rattle.std.proofs.Common.{ap, sym, ◌∙◌}
use Rattle.std.proofs.lemmas.Bool.{and_parts}
use mathlib.Core.List.{List, [], ◌∷◌}
use Rattle.std.specs.Prelude.{Option, Some, None}
use Rattle.definition.specs.Base.{◌>>=◌, ◌or◌, first, keep, same, some?, every?}
use Rattle.definition.specs.Ascii.{bytes}
use Rattle.definition.specs.Bits.{enc, dec, bits_of, bytes_up_to}
use Rattle.definition.specs.Text.{Text, following, utf8_after, is_utf8, front_width, back_width, strip, trim_front, trim_back, trim, before, after, digits, digits_after, sign_of}
use Rattle.definition.specs.Number.{decimal_of, short?, number_of}
use Rattle.definition.specs.Tree.{packed, head_of, Forest, nothing, one, Element, elements, element, all, child, text_of, level, records, records_up_to, record_of, layout, right, size, deeper, below_root}
use Rattle.definition.specs.Refusal.{utf8?, project?, long?, too_long, long_in, tree_refusal, read_answer}
use Rattle.laws.specs.Same.{same_refl, same_eq}
use Rattle.theorems.specs.Told.{root_of}
use Rattle.theorems.specs.SameButCustom.{is_custom, SameButCustom, same_but, SameChildren, empty, next, custom}
use Rattle.theorems.specs.CustomFields.{CustomFieldsChangeNoModel, is_custom_in, emptied_below, emptied, RelatedIsEmptied, last_week, this_week, renamed, costly, elsewhere, Examples}
use Rattle.theorems.proofs.SameParts.{model_same}

pub custom_fields : CustomFieldsChangeNoModel
unfolding read_answer
custom_fields s t room h k e = rw (h, k, model_same e)

-- ---- related is the same with the custom fields emptied

of_custom_in : (parent n : Text) → is_custom_in parent n ≡ true → (parent ≡ bytes "Task") × (is_custom n ≡ true)
of_custom_in parent n h = let (a, b) = and_parts _ _ h in (same_eq parent (bytes "Task") a, b)

custom_in : (parent n : Text) → parent ≡ bytes "Task" → is_custom n ≡ true → is_custom_in parent n ≡ true
custom_in parent n a b = rw (a, same_refl (bytes "Task"), b) refl

one_name : (n m : Text) → is_custom n ≡ true → is_custom m ≡ true → n ≡ m
one_name n m a b = same_eq n (bytes "ExtendedAttribute") a ∙ sym (same_eq m (bytes "ExtendedAttribute") b)

only_below : (parent : Text) (c d : Forest) → SameChildren parent (elements c) (elements d) → emptied_below parent c ≡ emptied_below parent d
unfolding elements
only_below parent nothing nothing h = refl
only_below parent nothing (one m u d q) h = elim h [ ]
only_below parent (one n t c r) nothing h = elim h [ ]
only_below parent (one n t c r) (one m u d q) (next (same_but a b k) h) =
    let below = only_below n c d k ∙ ap (λ x. emptied_below x d) a in
    λ i. one (a i) (if is_custom_in parent (a i) then [] else b i) (if is_custom_in parent (a i) then nothing else below i) (only_below parent r q h i)
only_below parent (one n t c r) (one m u d q) (custom a b e h) =
    rw (custom_in parent n a b, custom_in parent m a e) (λ i. one (one_name n m b e i) [] nothing (only_below parent r q h i))

pair : (parent : Text) (n t u : Text) (c d : Forest) {es fs : List Element} (f : Bool) → is_custom_in parent n ≡ f → (if f then [] else t) ≡ (if f then [] else u) → (f ≡ false → SameChildren n (elements c) (elements d)) → SameChildren parent es fs
    → SameChildren parent (record { name = n; text = t; below = c } ∷ es) (record { name = n; text = u; below = d } ∷ fs)
pair parent n t u c d true h b k r = let (x, y) = of_custom_in parent n h in custom x y y r
pair parent n t u c d false h b k r = next (same_but refl b (k refl)) r

all_below : (parent : Text) (c d : Forest) → emptied_below parent c ≡ emptied_below parent d → SameChildren parent (elements c) (elements d)
unfolding elements
all_below parent nothing nothing h = empty
all_below parent nothing (one m u d q) h = cc
all_below parent (one n t c r) nothing h = cc
all_below parent (one n t c r) (one m u d q) h =
    let a : n ≡ m = cc in
    let b : (if is_custom_in parent n then [] else t) ≡ (if is_custom_in parent n then [] else u) = cc in
    let l : emptied_below parent r ≡ emptied_below parent q = cc in
    rw (sym a) (pair parent n t u c d (is_custom_in parent n) refl b (λ f. all_below n c d cc) (all_below parent r q l))

pub related_is_emptied : RelatedIsEmptied
related_is_emptied e f = (only, back)
  where
    only : SameButCustom e f → emptied e ≡ emptied f
    only (same_but a b k) =
        let below = only_below e.name e.below f.below k ∙ ap (λ x. emptied_below x f.below) a in
        λ i. record { name = a i; text = b i; below = below i }

    back : emptied e ≡ emptied f → SameButCustom e f
    back h =
        let a : e.name ≡ f.name = ap (λ (x : Element). x.name) h in
        same_but a (ap (λ (x : Element). x.text) h) (all_below e.name e.below f.below (ap (λ (x : Element). x.below) h ∙ ap (λ x. emptied_below x f.below) (sym a)))

-- ---- examples

accepted : (tree_refusal last_week ≡ 0) × (tree_refusal this_week ≡ 0) × (tree_refusal renamed ≡ 0) × (tree_refusal costly ≡ 5)
unfolding packed head_of bytes_up_to tree_refusal layout records records_up_to record_of right size bits_of enc dec every? utf8? is_utf8 utf8_after following project? same some? below_root deeper too_long long_in long? trim trim_front trim_back strip front_width back_width number_of decimal_of short? before after digits digits_after sign_of
accepted = (refl, refl, refl, refl)

related : SameButCustom (root_of last_week) (root_of this_week) × SameButCustom (root_of last_week) (root_of costly)
unfolding packed head_of bytes_up_to records records_up_to record_of bits_of enc dec element level same
related = ((related_is_emptied _ _).1 refl, (related_is_emptied _ _).1 refl)

-- the text of the first element of a name in the first Task
abbrev said : Text → Element → Option Text
said n e = child e (bytes "Tasks") >>= λ x. child x (bytes "Task") >>= λ t. text_of t n

differ : root_of last_week ≡ root_of this_week → ⊥
unfolding packed head_of bytes_up_to records records_up_to record_of bits_of enc dec element level elements all keep child first text_of same trim trim_front trim_back strip front_width back_width
differ h =
    let k : None ≡ Some (bytes "x") = ap (said (bytes "ExtendedAttribute")) h in
    cc

unrelated : SameButCustom (root_of last_week) (root_of renamed) → ⊥
unfolding packed head_of bytes_up_to records records_up_to record_of bits_of enc dec element level elements all keep child first text_of same trim trim_front trim_back strip front_width back_width
unrelated h =
    let k : true ≡ false = ap (λ e. same (said (bytes "Name") e or []) (bytes "A")) ((related_is_emptied _ _).0 h) in
    cc

unrelated_elsewhere : SameButCustom (root_of (elsewhere [])) (root_of (elsewhere (bytes "x"))) → ⊥
unfolding packed head_of bytes_up_to records records_up_to record_of bits_of enc dec element level elements all keep child first text_of same trim trim_front trim_back strip front_width back_width
unrelated_elsewhere h =
    let k : None ≡ Some (bytes "x") = ap (λ e. text_of e (bytes "ExtendedAttribute")) ((related_is_emptied _ _).0 h) in
    cc

pub examples : Examples
examples =
    record {
      accepted = (accepted.0, accepted.1, accepted.2);
      related = related.0;
      differ = differ;
      same_answers = λ room. custom_fields last_week this_week room accepted.0 accepted.1 related.0;
      unrelated = unrelated;
      unrelated_elsewhere = unrelated_elsewhere;
      refused = (related.1, accepted.3);
    }
