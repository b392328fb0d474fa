-- The law that the reader's parts stand on: of elements that differ in custom fields alone, what all, child and text_of find under any other name is related. Assumes nothing.
use Rattle.std.specs.Prelude.{if◌then◌else◌, ◌≡◌, refl, Bool, true, false, List, ◌∷◌}
use Rattle.std.proofs.Common.{sym, ap, ◌∙◌}
use Rattle.std.proofs.lemmas.Bool.{false≢true, false_from_ne_true}
use Rattle.std.specs.Prelude.{Option, Some, None}
use Prim.Native.String.{String}
use Rattle.definition.specs.Base.{◌>>=◌, first, keep, same}
use Rattle.definition.specs.Ascii.{bytes}
use Rattle.definition.specs.Text.{Text, trim}
use Rattle.definition.specs.Tree.{Element, all, child, all_in, text_of, non_empty}
use Rattle.definition.specs.Field.{text_in}
use Rattle.laws.specs.Same.{same_eq}
use Rattle.theorems.specs.LinkSums.{Pairs, empty as none, next as more}
use Rattle.theorems.specs.SameButCustom.{is_custom, SameButCustom, same_but, SameChildren, empty, next, custom}

-- ---- what is asked of related elements

-- related one by one
abbrev pub Related : List Element → List Element → Type 0
Related = Pairs SameButCustom

-- both there and related, or both missing
pub data BothOrNone : Option Element → Option Element → Type 0 where
  missing : BothOrNone None None
  there : {e f : Element} → SameButCustom e f → BothOrNone (Some e) (Some f)

-- a name that no custom field has
abbrev pub Other : Text → Type 0
Other n = is_custom n ≡ false

pub if_related : {e f : Element} {es fs : List Element} (t : Bool) → SameButCustom e f → Related es fs → Related (if t then e ∷ es else es) (if t then f ∷ fs else fs)
if_related true h k = more h k
if_related false h k = k

-- no custom field has such a name
passed : (n : Text) → Other n → (m : Text) → is_custom m ≡ true → same m n ≡ false
passed n o m c = false_from_ne_true (same m n) (λ h. false≢true (sym o ∙ ap is_custom (sym (same_eq m n h)) ∙ c))

children_same : (n : Text) → Other n → {parent : Text} {es fs : List Element} → SameChildren parent es fs → Related (keep (λ (c : Element). same c.name n) es) (keep (λ (c : Element). same c.name n) fs)
unfolding keep
children_same n o empty = none
children_same n o (next {e = e} (same_but a b c) r) = rw (sym (ap (λ (m : Text). same m n) a)) (if_related (same e.name n) (same_but a b c) (children_same n o r))
children_same n o (custom {e = e} {f = f} p a b r) = rw (passed n o e.name a, passed n o f.name b) (children_same n o r)

-- ---- the law
pub all_same : (n : Text) → Other n → {e f : Element} → SameButCustom e f → Related (all e n) (all f n)
unfolding all
all_same n o (same_but a b c) = children_same n o c

first_same : {es fs : List Element} → Related es fs → BothOrNone (first es) (first fs)
unfolding first
first_same none = missing
first_same (more h k) = there h

pub child_same : (n : Text) → Other n → {e f : Element} → SameButCustom e f → BothOrNone (child e n) (child f n)
unfolding child
child_same n o h = first_same (all_same n o h)

pub all_in_same : (n : Text) → Other n → {a b : Option Element} → BothOrNone a b → Related (all_in a n) (all_in b n)
all_in_same n o missing = none
all_in_same n o (there h) = all_same n o h

pub bind_same : {A : Type 0} {f g : Element → Option A} → ((d e : Element) → SameButCustom d e → f d ≡ g e) → {a b : Option Element} → BothOrNone a b → (a >>= f) ≡ (b >>= g)
bind_same k missing = refl
bind_same k (there {e = d} {f = e} h) = k d e h

own_text : (d e : Element) → SameButCustom d e → non_empty (trim d.text) ≡ non_empty (trim e.text)
own_text d e (same_but n t c) = ap (λ (s : Text). non_empty (trim s)) t

pub text_same : (name : String) → Other (bytes name) → {e f : Element} → SameButCustom e f → text_in e name ≡ text_in f name
unfolding text_of
text_same name o h = bind_same own_text (child_same (bytes name) o h)
