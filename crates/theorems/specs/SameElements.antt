-- Two trees with the same elements give the same model. In a tree that is not refused the bytes of the first root's elements are fixed, so what this tells is
-- that nothing behind the first root is read. Assumes nothing.
use Rattle.std.specs.Prelude.{◌≡◌, refl, ℕ, length}
use Rattle.std.proofs.Common.{sym, ap, arith}
use mathlib.Core.List.{List, [], ◌∷◌, ◌++◌, nil≢cons, head-eq_of_cons-eq, tail-eq_of_cons-eq}
use Rattle.definition.specs.Base.{same, some?, every?}
use Rattle.definition.specs.Ascii.{bytes}
use Rattle.definition.specs.Bits.{enc, dec, bits_of}
use Rattle.definition.specs.Text.{Text, following, utf8_after, is_utf8, front_width, back_width, strip, trim_front, trim_back, trim, before, after, digits_after, digits, sign_of}
use Rattle.definition.specs.Number.{decimal_of, short?, number_of}
use Rattle.definition.specs.Duration.{piece_of, time_figures, days_of, figures_of, duration_of}
use Rattle.definition.specs.Tree.{Forest, nothing, one, Element, elements, element, level, records, records_up_to, record_of, layout, right, size, deeper, below_root}
use Rattle.definition.specs.Refusal.{utf8?, project?, long?, long_in, too_long, tree_refusal, read_answer}
use Rattle.theorems.specs.Told.{root_of}

-- ---- the same elements

-- in order, one by one: each has the same name, the same text of its own and the same children
pub data SameAll : List Element → List Element → Type 0 where
  empty : SameAll [] []
  next : {e f : Element} {es fs : List Element} → e.name ≡ f.name → e.text ≡ f.text → SameAll (elements e.below) (elements f.below) → SameAll es fs → SameAll (e ∷ es) (f ∷ fs)

pub record SameElement (e f : Element) : Type 0 where
  pub name : e.name ≡ f.name
  pub text : e.text ≡ f.text
  pub children : SameAll (elements e.below) (elements f.below)

-- ---- so they are one

below_is : (c d : Forest) → elements c ≡ elements d → c ≡ d
unfolding elements
below_is nothing nothing h = refl
below_is nothing (one m u d q) h = absurd (nil≢cons h)
below_is (one n t c r) nothing h = absurd (nil≢cons (sym h))
below_is (one n t c r) (one m u d q) h =
    let e = head-eq_of_cons-eq h in
    let a : n ≡ m = ap (λ (x : Element). x.name) e in
    let b : t ≡ u = ap (λ (x : Element). x.text) e in
    let k : c ≡ d = ap (λ (x : Element). x.below) e in
    let l : r ≡ q = below_is r q (tail-eq_of_cons-eq h) in
    cc

element_is : (e f : Element) → e.name ≡ f.name → e.text ≡ f.text → e.below ≡ f.below → e ≡ f
element_is e f n t b = λ i. record { name = n i; text = t i; below = b i }

all_is : {es fs : List Element} → SameAll es fs → es ≡ fs
all_is empty = refl
all_is (next {e = e} {f = f} {es = es} {fs = fs} n t c r) =
    let a : e ≡ f = element_is e f n t (below_is e.below f.below (all_is c)) in
    let b : es ≡ fs = all_is r in
    cc

pub same_is : (e f : Element) → SameElement e f → e ≡ f
same_is e f h = element_is e f h.name h.text (below_is e.below f.below (all_is h.children))

pub same_model : (s t : Text) (room : ℕ) → tree_refusal s ≡ 0 → tree_refusal t ≡ 0 → SameElement (root_of s) (root_of t) → read_answer s room ≡ read_answer t room
unfolding read_answer
same_model s t room h k e = rw (h, k, same_is (root_of s) (root_of t) e)

-- ---- an example: records from a second one of depth 1 on are unread, by refusal 5 too

-- a Project with a Title
abbrev pub alone : Text
alone = 2 ∷ 7 ∷ 0 ∷ 0 ∷ bytes "Project" ++ (4 ∷ 5 ∷ 0 ∷ 1 ∷ bytes "Title" ++ bytes "X")

-- a second Project, with a task whose Duration has 16 digits
abbrev pub second : Text
second = 2 ∷ 7 ∷ 0 ∷ 0 ∷ bytes "Project" ++ (4 ∷ 5 ∷ 0 ∷ 0 ∷ bytes "Tasks" ++ (6 ∷ 4 ∷ 0 ∷ 0 ∷ bytes "Task" ++ (8 ∷ 8 ∷ 0 ∷ 19 ∷ bytes "Duration" ++ bytes "PT1234567890123456H")))

abbrev pub followed : Text
followed = alone ++ second

pub other_bytes : alone ≡ followed → ⊥
other_bytes h = omega (arith, ap length h)

-- alone it is refused
pub second_refused : tree_refusal second ≡ 5
unfolding tree_refusal layout records records_up_to record_of right size bits_of enc dec every? utf8? is_utf8 utf8_after following project? same some? below_root deeper too_long long_in long? trim trim_front trim_back strip front_width back_width number_of duration_of figures_of days_of time_figures piece_of decimal_of short? before after digits digits_after sign_of
second_refused = refl

-- behind another it is not
pub accepted : (tree_refusal alone ≡ 0) × (tree_refusal followed ≡ 0)
unfolding tree_refusal layout records records_up_to record_of right size bits_of enc dec every? utf8? is_utf8 utf8_after following project? same some? below_root deeper too_long long_in
accepted = (refl, refl)

same_roots : SameElement (root_of alone) (root_of followed)
unfolding records records_up_to record_of bits_of enc dec element level elements
same_roots = record { name = refl; text = refl; children = next refl refl empty empty }

pub same_answers : (room : ℕ) → read_answer alone room ≡ read_answer followed room
same_answers room = same_model alone followed room accepted.0 accepted.1 same_roots
