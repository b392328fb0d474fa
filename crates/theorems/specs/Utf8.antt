-- Texts in UTF-8 stay so: trimmed, with stars behind; and plain texts are. So what the definition makes of a tree whose texts are in UTF-8 has
-- only such texts. Assumes nothing.
use Rattle.std.specs.Prelude.{if◌then◌else◌, ◌≡◌, refl, Bool, true, false, ◌&&◌, ◌||◌, ℕ, zero, suc, ◌≤◌, ◌<◌, leb, eqb, drop, get_or}
use Rattle.std.proofs.Common.{sym, ap, ◌∙◌, subst, true≢false, arith, le-leb, eqb-true, ne_eqb}
use mathlib.Core.List.{List, [], ◌∷◌, ◌++◌, reverse, reverse-cons, append_assoc}
use Rattle.std.specs.Prelude.{Option, Some, None}
use Rattle.std.proofs.lemmas.Bool.{lt-leb}
use Rattle.definition.specs.Base.{when, within, every?}
use Rattle.definition.specs.Text.{Text, tail_byte, following, utf8_after, is_utf8, white1, white2, white3, front_width, strip}
use Rattle.definition.specs.Tree.{Rec, records, Forest, Element, element}
use Rattle.definition.specs.Refusal.{utf8?}
use Rattle.laws.specs.Bools.{both, within_is, is_within}
use Rattle.laws.specs.Each.{Each, empty, next}
use Rattle.laws.specs.Bits.{Bytes}
use Rattle.laws.specs.FitLists.{Perhaps, missing, there, perhaps_if, perhaps_when}
use Rattle.laws.specs.FitTrees.{Throughout, nowhere, along, OfRecord, Slim, Holds, holds_element}
use Rattle.laws.proofs.FitTrees.{small_element}

-- ---- characters

-- the bytes that go on with a character
abbrev Goes : List (ℕ × ℕ) → Type 0
Goes = Each (λ (r : ℕ × ℕ). (0x80 ≤ r.0) × (r.1 ≤ 0xBF))

goes_range : (a z : ℕ) {rs : List (ℕ × ℕ)} → 0x80 ≤ a → z ≤ 0xBF → Goes rs → Goes ((a, z) ∷ rs)
goes_range a z h k g = next {x = (a, z)} (h, k) g

goes_tail : {rs : List (ℕ × ℕ)} → Goes rs → Goes (tail_byte ∷ rs)
goes_tail g = goes_range 0x80 0xBF (omega arith) (omega arith) g

goes_following : (b : ℕ) → Perhaps Goes (following b)
unfolding following
goes_following b =
    perhaps_if (within 0x00 0x7F b) (there empty)
    (perhaps_if (within 0xC2 0xDF b) (there (goes_tail empty))
    (perhaps_if (eqb b 0xE0) (there (goes_range 0xA0 0xBF (omega arith) (omega arith) (goes_tail empty)))
    (perhaps_if (within 0xE1 0xEC b) (there (goes_tail (goes_tail empty)))
    (perhaps_if (eqb b 0xED) (there (goes_range 0x80 0x9F (omega arith) (omega arith) (goes_tail empty)))
    (perhaps_if (within 0xEE 0xEF b) (there (goes_tail (goes_tail empty)))
    (perhaps_if (eqb b 0xF0) (there (goes_range 0x90 0xBF (omega arith) (omega arith) (goes_tail (goes_tail empty))))
    (perhaps_if (within 0xF1 0xF3 b) (there (goes_tail (goes_tail (goes_tail empty))))
    (perhaps_if (eqb b 0xF4) (there (goes_range 0x80 0x8F (omega arith) (omega arith) (goes_tail (goes_tail empty)))) missing))))))))

no : {A : Type 0} → false ≡ true → A
no h = absurd (true≢false (sym h))

utf8_none : (s : Text) → utf8_after s None ≡ false
unfolding utf8_after
utf8_none [] = refl
utf8_none (b ∷ s) = refl

-- one text after another
utf8_both : (s : Text) (o : Option (List (ℕ × ℕ))) (t : Text) → utf8_after s o ≡ true → is_utf8 t ≡ true → utf8_after (s ++ t) o ≡ true
unfolding utf8_after is_utf8
utf8_both [] None t h k = no h
utf8_both [] (Some []) t h k = k
utf8_both [] (Some (r ∷ rs)) t h k = no h
utf8_both (b ∷ s) None t h k = no h
utf8_both (b ∷ s) (Some []) t h k = utf8_both s (following b) t h k
utf8_both (b ∷ s) (Some (r ∷ rs)) t h k = utf8_both s (when (within r.0 r.1 b) rs) t h k

pub utf8_append : (s t : Text) → is_utf8 s ≡ true → is_utf8 t ≡ true → is_utf8 (s ++ t) ≡ true
unfolding is_utf8
utf8_append s t h k = utf8_both s (Some []) t h k

-- plain bytes are characters
plain_following : (b : ℕ) → b < 128 → following b ≡ Some []
unfolding following
plain_following b h = rw (is_within 0 0x7F b (omega arith, omega arith))

pub utf8_plain : {s : Text} → Each (λ b. b < 128) s → is_utf8 s ≡ true
unfolding is_utf8 utf8_after
utf8_plain empty = refl
utf8_plain (next {x = b} {l = s} h hs) = ap (utf8_after s) (plain_following b h) ∙ utf8_plain hs

-- ---- cut at a character

-- a byte that begins a character
abbrev Begins : ℕ → Type 0
Begins b = (r : ℕ × ℕ) → (0x80 ≤ r.0) × (r.1 ≤ 0xBF) → within r.0 r.1 b ≡ false

pub low_begins : (b : ℕ) → b < 128 → Begins b
low_begins b h r (p, q) = rw (lt-leb r.0 b (omega arith))

pub high_begins : (b : ℕ) → 0xBF < b → Begins b
high_begins b h r (p, q) = rw (lt-leb b r.1 (omega arith)) (and_no (leb r.0 b))
  where
    and_no : (t : Bool) → (t && false) ≡ false
    and_no true = refl
    and_no false = refl

-- what stands before it is whole
cut_at : (s : Text) {o : Option (List (ℕ × ℕ))} (b : ℕ) (t : Text) → Begins b → Perhaps Goes o → utf8_after (s ++ (b ∷ t)) o ≡ true → utf8_after s o ≡ true
unfolding utf8_after
cut_at [] b t g missing h = h
cut_at [] b t g (there empty) h = refl
cut_at [] b t g (there (next {x = r} {l = rs} k ks)) h =
    no (sym (ap (λ (u : Bool). utf8_after t (when u rs)) (g r k) ∙ utf8_none t) ∙ h)
cut_at (c ∷ s) b t g missing h = h
cut_at (c ∷ s) b t g (there empty) h = cut_at s b t g (goes_following c) h
cut_at (c ∷ s) b t g (there (next {x = r} {l = rs} k ks)) h = cut_at s b t g (perhaps_when (within r.0 r.1 c) rs (λ e. ks)) h

utf8_before : (s : Text) (b : ℕ) (t : Text) → Begins b → is_utf8 (s ++ (b ∷ t)) ≡ true → is_utf8 s ≡ true
unfolding is_utf8
utf8_before s b t g h = cut_at s b t g (there empty) h

-- ---- white space in front

gone : (r : ℕ × ℕ) (rs : List (ℕ × ℕ)) (b : ℕ) (s : Text) → utf8_after (b ∷ s) (Some (r ∷ rs)) ≡ true → utf8_after s (Some rs) ≡ true
unfolding utf8_after
gone r rs b s h = by (within r.0 r.1 b) h
  where
    by : (t : Bool) → utf8_after s (when t rs) ≡ true → utf8_after s (Some rs) ≡ true
    by true h = h
    by false h = no (sym (utf8_none s) ∙ h)

or_is : (a b : Bool) {P : Type 0} → (a || b) ≡ true → (a ≡ true → P) → (b ≡ true → P) → P
or_is true b h p q = p refl
or_is false b h p q = q h

pub white1_low : (a : ℕ) → white1 a ≡ true → a < 128
white1_low a h = or_is (within 9 13 a) (eqb a 32) h (λ e. let k = within_is 9 13 a e in omega arith) (λ e. let k = eqb-true a 32 e in omega arith)

pub white2_first : (a b : ℕ) → white2 a b ≡ true → a ≡ 0xC2
white2_first a b h = eqb-true a 0xC2 (both (eqb a 0xC2) (eqb b 0x85 || eqb b 0xA0) h).0

-- E1, E2 or E3
pub white3_first : (a b c : ℕ) → white3 a b c ≡ true → (0xE1 ≤ a) × (a ≤ 0xEC)
white3_first a b c h =
    or_is (eqb a 0xE1 && (eqb b 0x9A && eqb c 0x80)) _ h (λ e. is 0xE1 (both (eqb a 0xE1) _ e).0 (omega arith) (omega arith))
    (λ g. or_is (eqb a 0xE2 && (eqb b 0x80 && (within 0x80 0x8A c || (within 0xA8 0xA9 c || eqb c 0xAF)))) _ g (λ e. is 0xE2 (both (eqb a 0xE2) _ e).0 (omega arith) (omega arith))
    (λ f. or_is (eqb a 0xE2 && (eqb b 0x81 && eqb c 0x9F)) _ f (λ e. is 0xE2 (both (eqb a 0xE2) _ e).0 (omega arith) (omega arith))
    (λ d. is 0xE3 (both (eqb a 0xE3) _ d).0 (omega arith) (omega arith))))
  where
    is : (n : ℕ) → eqb a n ≡ true → 0xE1 ≤ n → n ≤ 0xEC → (0xE1 ≤ a) × (a ≤ 0xEC)
    is n e p q = let k = eqb-true a n e in (omega arith, omega arith)

two_follow : (a : ℕ) → a ≡ 0xC2 → following a ≡ Some (tail_byte ∷ [])
unfolding following
two_follow a e = rw e

three_follow : (a : ℕ) → 0xE1 ≤ a → a ≤ 0xEC → following a ≡ Some (tail_byte ∷ tail_byte ∷ [])
unfolding following
three_follow a p q =
    simp (
      lt-leb a 0x7F (omega arith),
      le-leb 0 a (omega arith),
      lt-leb a 0xDF (omega arith),
      le-leb 0xC2 a (omega arith),
      ne a (omega arith),
      le-leb 0xE1 a p,
      le-leb a 0xEC q,
    )
  where
    ne : (n : ℕ) → 0xE1 ≤ n → eqb n 0xE0 ≡ false
    ne n h = ne_eqb n 0xE0 (λ e. omega arith)

drop_none : (n : ℕ) → is_utf8 (drop n []) ≡ true
unfolding is_utf8 utf8_after
drop_none zero = refl
drop_none (suc n) = refl

front_step : (s : Text) → is_utf8 s ≡ true → is_utf8 (drop (front_width (get_or s 0 0) (get_or s 1 0) (get_or s 2 0)) s) ≡ true
unfolding front_width is_utf8 utf8_after
front_step [] h = drop_none (front_width 0 0 0)
front_step (a ∷ s) h = by (white1 a) (white2 a (get_or s 0 0)) (white3 a (get_or s 0 0) (get_or s 1 0)) refl refl refl
  where
    two : (s : Text) → utf8_after s (Some (tail_byte ∷ [])) ≡ true → is_utf8 (drop 1 s) ≡ true
    two [] k = refl
    two (b ∷ s) k = gone tail_byte [] b s k

    three : (s : Text) → utf8_after s (Some (tail_byte ∷ tail_byte ∷ [])) ≡ true → is_utf8 (drop 2 s) ≡ true
    three [] k = refl
    three (b ∷ s) k = two s (gone tail_byte (tail_byte ∷ []) b s k)

    by : (t u v : Bool) → white1 a ≡ t → white2 a (get_or s 0 0) ≡ u → white3 a (get_or s 0 0) (get_or s 1 0) ≡ v
        → is_utf8 (drop (if t then 1 else if u then 2 else if v then 3 else 0) (a ∷ s)) ≡ true
    by true u v x y z = sym (ap (utf8_after s) (plain_following a (white1_low a x))) ∙ h
    by false true v x y z = two s (sym (ap (utf8_after s) (two_follow a (white2_first a (get_or s 0 0) y))) ∙ h)
    by false false true x y z =
        let (p, q) = white3_first a (get_or s 0 0) (get_or s 1 0) z in
        three s (sym (ap (utf8_after s) (three_follow a p q)) ∙ h)
    by false false false x y z = h

pub front_trim : (n : ℕ) (s : Text) → is_utf8 s ≡ true → is_utf8 (strip front_width n s) ≡ true
unfolding strip
front_trim zero s h = h
front_trim (suc n) s h = front_trim n (drop (front_width (get_or s 0 0) (get_or s 1 0) (get_or s 2 0)) s) (front_step s h)

-- ---- white space behind

-- the text that stands in a list from its end
abbrev pub Turned : Text → Type 0
Turned l = is_utf8 (reverse l) ≡ true

pub turned_none : (n : ℕ) → Turned (drop n [])
unfolding is_utf8 utf8_after
turned_none zero = refl
turned_none (suc n) = refl

pub turned_cut : (a : ℕ) (l : Text) → Begins a → Turned (a ∷ l) → Turned l
turned_cut a l g h = utf8_before (reverse l) a [] g (subst (λ (t : Text). is_utf8 t ≡ true) (reverse-cons a l) h)

pub turned_two : (a b : ℕ) (l : Text) → Begins b → Turned (a ∷ b ∷ l) → Turned l
turned_two a b l g h =
    let e : reverse (a ∷ b ∷ l) ≡ reverse l ++ (b ∷ a ∷ []) =
    reverse-cons a (b ∷ l) ∙ ap (λ (t : Text). t ++ (a ∷ [])) (reverse-cons b l) ∙ append_assoc (reverse l) (b ∷ []) (a ∷ []) in
    utf8_before (reverse l) b (a ∷ []) g (subst (λ (t : Text). is_utf8 t ≡ true) e h)

pub turned_three : (a b c : ℕ) (l : Text) → Begins c → Turned (a ∷ b ∷ c ∷ l) → Turned l
turned_three a b c l g h =
    let f : reverse (b ∷ c ∷ l) ≡ reverse l ++ (c ∷ b ∷ []) =
    reverse-cons b (c ∷ l) ∙ ap (λ (t : Text). t ++ (b ∷ [])) (reverse-cons c l) ∙ append_assoc (reverse l) (c ∷ []) (b ∷ []) in
    let e : reverse (a ∷ b ∷ c ∷ l) ≡ reverse l ++ (c ∷ b ∷ a ∷ []) =
    reverse-cons a (b ∷ c ∷ l) ∙ ap (λ (t : Text). t ++ (a ∷ [])) f ∙ append_assoc (reverse l) (c ∷ b ∷ []) (a ∷ []) in
    utf8_before (reverse l) c (b ∷ a ∷ []) g (subst (λ (t : Text). is_utf8 t ≡ true) e h)

-- ---- trees in UTF-8

abbrev pub Neat : Text → Type 0
Neat s = Slim s × (is_utf8 s ≡ true)

-- two things that hold throughout
along_both : {P Q : Text → Type 0} {f : Forest} → Throughout P f → Throughout Q f → Throughout (λ s. P s × Q s) f
along_both nowhere nowhere = nowhere
along_both (along n t c r) (along m u d q) = along (n, m) (t, u) (along_both c d) (along_both r q)

holds_both : {P Q : Text → Type 0} {e : Element} → Holds P e → Holds Q e → Holds (λ s. P s × Q s) e
holds_both h k = record { name = (h.name, k.name); text = (h.text, k.text); below = along_both h.below k.below }

utf8_records : (rs : List Rec) → every? utf8? rs ≡ true → Each (OfRecord (λ s. is_utf8 s ≡ true)) rs
unfolding every? utf8?
utf8_records [] h = empty
utf8_records (r ∷ rs) h =
    let (p, q) = both (utf8? r) (every? utf8? rs) h in
    next {x = r} (both (is_utf8 r.name) (is_utf8 r.text) p) (utf8_records rs q)

pub neat_element : (s : Text) → Bytes s → every? utf8? (records s) ≡ true → Holds Neat (element (records s))
unfolding is_utf8 utf8_after
neat_element s b h = holds_both (small_element s b) (holds_element {P = λ s. is_utf8 s ≡ true} refl (utf8_records (records s) h))
