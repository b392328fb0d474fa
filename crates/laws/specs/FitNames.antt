-- Names with stars are new, so the names of the calendars are distinct, and the calendars are those that were built with the main one turned to
-- the front. Assumes nothing.
use Rattle.std.specs.Prelude.{if◌then◌else◌, ◌≡◌, refl, Bool, true, false, ◌||◌, not, List, [], ◌∷◌, ◌++◌, map, ℕ, zero, suc, ◌+◌, ◌≤◌, ◌<◌, leb, length, take, drop, replicate}
use Rattle.std.proofs.Common.{sym, ap, ◌∙◌, subst, true≢false, append-nil, append_assoc, arith, leb-true, le-leb, length-append}
use Rattle.std.specs.Prelude.{Some}
use Rattle.std.proofs.lemmas.Bool.{lt-leb}
use Rattle.std.specs.Prelude.{slice_get}
use Rattle.definition.specs.Base.{◌>>=◌, ◌or◌, given, keep, some?, same}
use Rattle.definition.specs.Ascii.{bytes}
use Rattle.definition.specs.Text.{Text}
use Rattle.definition.specs.Format.{bit}
use Rattle.definition.specs.Tree.{Element}
use Rattle.definition.specs.Field.{text_in}
use Rattle.definition.specs.Model.{Calendar}
use Rattle.definition.specs.Calendar.{starred, free, Named, with_uid, base_of, renamed, build, calendar_elements, built_calendars, calendar_of, default_calendar, elapsed_calendar}
use Rattle.definition.specs.Task.{Context, is_elapsed}
use Rattle.definition.specs.Read.{calendars_of}
use Rattle.laws.specs.Options.{never}
use Rattle.laws.specs.Same.{same_refl, same_eq}
use Rattle.laws.specs.Formats.{got}
use Rattle.laws.specs.Tests.{neither, some_both, turned}

-- ---- a name with stars

-- none of some names
abbrev pub Fresh : Text → List Text → Type 0
Fresh n names = some? (same n) names ≡ false

false_or : (a b : Bool) → a ≡ false → b ≡ false → (a || b) ≡ false
false_or a b h k = rw (h, k)

-- a list is of another length
pub same_longer : (a b : Text) → (length a ≡ length b → ⊥) → same a b ≡ false
same_longer a b h = by (same a b) refl
  where
    by : (t : Bool) → same a b ≡ t → t ≡ false
    by false e = refl
    by true e = absurd (h (ap length (same_eq a b e)))

pub same_turned : (a b : Text) → same a b ≡ same b a
same_turned = turned same (λ a b e. rw (same_eq a b e) (same_refl b))

-- how many names have a length of n at least
abbrev many : ℕ → List Text → ℕ
many n [] = 0
many n (s ∷ l) = bit (leb n (length s)) + many n l

bit_most : (t : Bool) → bit t ≤ 1
bit_most true = omega arith
bit_most false = omega arith

pub many_most : (n : ℕ) (l : List Text) → many n l ≤ length l
many_most n [] = omega arith
many_most n (s ∷ l) = omega (arith, many_most n l, bit_most (leb n (length s)))

bit_less : (n m : ℕ) → bit (leb (suc n) m) ≤ bit (leb n m)
bit_less n m = by (leb (suc n) m) refl
  where
    by : (t : Bool) → leb (suc n) m ≡ t → bit t ≤ bit (leb n m)
    by true e = rw (le-leb n m (omega (arith, leb-true (suc n) m e))) (omega arith)
    by false e = omega arith

many_less : (n : ℕ) (l : List Text) → many (suc n) l ≤ many n l
many_less n [] = omega arith
many_less n (s ∷ l) = omega (arith, many_less n l, bit_less n (length s))

-- a name that is there is one of them
many_there : (n : Text) (l : List Text) → some? (same n) l ≡ true → many (suc (length n)) l < many (length n) l
unfolding some?
many_there n [] h = absurd (true≢false (sym h))
many_there n (s ∷ l) h = by (same n s) refl h (many_there n l)
  where
    by : (t : Bool) → same n s ≡ t → (t || some? (same n) l) ≡ true → (some? (same n) l ≡ true → many (suc (length n)) l < many (length n) l)
        → many (suc (length n)) (s ∷ l) < many (length n) (s ∷ l)
    by true e h more =
        let q : length n ≡ length s = ap length (same_eq n s e) in
        rw (le-leb (length n) (length s) (omega arith), lt-leb (suc (length n)) (length s) (omega arith)) (omega (arith, many_less (length n) l))
    by false e h more = omega (arith, more h, bit_less (length n) (length s))

-- where none is so long, a name is new
many_none : (n : Text) (l : List Text) → many (length n) l ≡ 0 → Fresh n l
unfolding some?
many_none n [] h = refl
many_none n (s ∷ l) h =
    let k : bit (leb (length n) (length s)) ≡ 0 = omega arith in
    false_or (same n s) (some? (same n) l) (same_longer n s (λ e. by (le-leb (length n) (length s) (omega arith)) k)) (many_none n l (omega arith))
  where
    by : leb (length n) (length s) ≡ true → bit (leb (length n) (length s)) ≡ 0 → ⊥
    by e k = let z : ◌≡◌ {A = ℕ} 1 0 = sym (ap bit e) ∙ k in omega arith

pub starred_new : (k : ℕ) (names : List Text) (n : Text) → many (length n) names ≤ k → Fresh (starred k names n) names
unfolding starred
starred_new zero names n h = many_none n names (omega arith)
starred_new (suc k) names n h = by (some? (same n) names) refl (starred_new k names (n ++ bytes "*"))
  where
    by : (t : Bool) → some? (same n) names ≡ t → (many (length (n ++ bytes "*")) names ≤ k → Fresh (starred k names (n ++ bytes "*")) names)
        → Fresh (if t then starred k names (n ++ bytes "*") else n) names
    by false e more = e
    by true e more =
        let l : length (n ++ bytes "*") ≡ suc (length n) = length-append n (bytes "*") ∙ omega arith in
        more (rw l (omega (arith, many_there n names e)))

-- with so many stars
pub record Starred (most : ℕ) (n r : Text) : Type 0 where
  pub stars : ℕ
  pub few : stars ≤ most
  pub is : r ≡ n ++ replicate stars 42

starred_shape : (k : ℕ) (names : List Text) (n : Text) → Starred k n (starred k names n)
unfolding starred
starred_shape zero names n = record { stars = 0; few = omega arith; is = sym (append-nil n) }
starred_shape (suc k) names n = by (some? (same n) names) (starred_shape k names (n ++ bytes "*"))
  where
    by : (t : Bool) → Starred k (n ++ bytes "*") (starred k names (n ++ bytes "*")) → Starred (suc k) n (if t then starred k names (n ++ bytes "*") else n)
    by false h = record { stars = 0; few = omega arith; is = sym (append-nil n) }
    by true h = record { stars = suc h.stars; few = omega (arith, h.few); is = h.is ∙ append_assoc n (bytes "*") (replicate h.stars 42) }

pub free_shape : (names : List Text) (n : Text) → Starred (length names) n (free names n)
free_shape names n = starred_shape (length names) names n

-- ---- distinct names

pub data Distinct : List Text → Type 0 where
  empty : Distinct []
  next : {n : Text} {l : List Text} → Fresh n l → Distinct l → Distinct (n ∷ l)

pub distinct_end : {l : List Text} (n : Text) → Distinct l → Fresh n l → Distinct (l ++ (n ∷ []))
unfolding some?
distinct_end n empty f = next refl empty
distinct_end n (next {n = m} {l = l} h d) f =
    let (u, v) = neither (same n m) (some? (same n) l) f in
    next (some_both (same m) l (n ∷ []) ∙ rw (h, same_turned m n, u)) (distinct_end n d v)

-- ---- the calendars

abbrev pub calendars_in : List Named → List Calendar
calendars_in built = map (λ (n : Named). n.1) built

abbrev pub names_in : List Named → List Text
names_in built = map (λ (x : Named). x.1.name) built

abbrev name_in : Calendar → Text
name_in c = c.name

pub names_append : (a b : List Named) → names_in (a ++ b) ≡ names_in a ++ names_in b
names_append [] b = refl
names_append (x ∷ a) b = ap (λ (l : List Text). x.1.name ∷ l) (names_append a b)

pub names_are : (built : List Named) → map name_in (calendars_in built) ≡ names_in built
names_are [] = refl
names_are (x ∷ l) = ap (λ (t : List Text). x.1.name ∷ t) (names_are l)

-- the next of the calendars
abbrev pub added_to : List Named → Element → Named
added_to built e =
    let c = calendar_of e ((base_of e >>= λ u. with_uid u built) or default_calendar) in
    (text_in e "UID" or [], renamed (free (names_in built) c.name) c)

pub build_next : (built : List Named) (e : Element) (es : List Element) → build built (e ∷ es) ≡ build (built ++ (added_to built e ∷ [])) es
unfolding build
build_next built e es = refl

pub build_length : (built : List Named) (es : List Element) → length (build built es) ≡ length built + length es
unfolding build
build_length built [] = omega arith
build_length built (e ∷ es) = build_length (built ++ (added_to built e ∷ [])) es ∙ omega (arith, length-append built (added_to built e ∷ []))

-- a test and its opposite keep all
pub keep_both : {A : Type 0} (p : A → Bool) (l : List A) → length (keep (λ x. not (p x)) l) + length (keep p l) ≡ length l
unfolding keep
keep_both p [] = refl
keep_both p (x ∷ l) = by (p x) (keep_both p l)
  where
    by : (t : Bool) → length (keep (λ x. not (p x)) l) + length (keep p l) ≡ length l
        → length (if not t then x ∷ keep (λ x. not (p x)) l else keep (λ x. not (p x)) l) + length (if t then x ∷ keep p l else keep p l) ≡ suc (length l)
    by true h = omega arith
    by false h = omega arith

pub built_length : (root : Element) → length (built_calendars root) ≡ length (calendar_elements root)
unfolding built_calendars
built_length root =
    let es = calendar_elements root in
    let first = keep (λ e. not (given (base_of e))) es in
    let others = keep (λ e. given (base_of e)) es in
    build_length (build [] first) others ∙ omega (arith, build_length [] first, keep_both (λ e. given (base_of e)) es)

-- ---- the main one to the front

keep_others : (n : Text) (l : List Calendar) → Fresh n (map name_in l) → keep (λ (d : Calendar). not (same d.name n)) l ≡ l
unfolding keep some?
keep_others n [] h = refl
keep_others n (c ∷ l) h =
    let (u, v) = neither (same n c.name) (some? (same n) (map name_in l)) h in
    rw (same_turned c.name n, u) (ap (λ (t : List Calendar). c ∷ t) (keep_others n l v))

at_other : (n : Text) (l : List Calendar) (m : ℕ) (c : Calendar) → Fresh n (map name_in l) → slice_get l m ≡ Some c → same n c.name ≡ false
unfolding some?
at_other n [] m c h e = never e
at_other n (d ∷ l) zero c h e =
    let (u, v) = neither (same n d.name) (some? (same n) (map name_in l)) h in
    got (λ c. same n c.name ≡ false) e u
at_other n (d ∷ l) (suc m) c h e =
    let (u, v) = neither (same n d.name) (some? (same n) (map name_in l)) h in
    at_other n l m c v e

-- without the mth
pub others : (cs : List Calendar) (m : ℕ) (c : Calendar) → Distinct (map name_in cs) → slice_get cs m ≡ Some c
    → keep (λ (d : Calendar). not (same d.name c.name)) cs ≡ take m cs ++ drop (suc m) cs
unfolding keep
others [] m c d e = never e
others (x ∷ l) zero c (next h d) e =
    got (λ c. keep (λ (d : Calendar). not (same d.name c.name)) (x ∷ l) ≡ l) e (rw (same_refl x.name) (keep_others x.name l h))
others (x ∷ l) (suc m) c (next h d) e =
    rw (at_other x.name l m c h e) (ap (λ (t : List Calendar). x ∷ t) (others l m c d e))

pub calendars_turned : (x : Context) (m : ℕ) → Distinct (names_in x.built) → slice_get (calendars_in x.built) m ≡ Some x.main
    → calendars_of x ≡ (x.main ∷ (take m (calendars_in x.built) ++ drop (suc m) (calendars_in x.built))) ++ (if some? is_elapsed x.tasks then elapsed_calendar ∷ [] else [])
unfolding calendars_of
calendars_turned x m d e = rw (others (calendars_in x.built) m x.main (subst Distinct (sym (names_are x.built)) d) e)
