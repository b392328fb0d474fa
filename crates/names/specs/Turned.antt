-- The calendars that were put, the main one first, have in the buffer the names that the definition gives them. Assumes nothing.
use Rattle.std.specs.Prelude.{if◌then◌else◌, ◌≡◌, refl, Bool, true, false, not, ℕ, zero, suc, ◌+◌, ◌-◌, ◌≤◌, ◌<◌, ltb, eqb, take, drop, replicate}
use Rattle.std.proofs.Math.Path.{sym, ap}
use Rattle.std.proofs.Common.{◌∙◌, add-zero, zero-add, arith, length-append, length-drop, take-append-drop, length-take-le, eqb-true, ltb-true, ltb-false, le-leb}
use mathlib.Core.List.{List, [], ◌∷◌, ◌++◌, map, append_assoc, append-nil}
use Rattle.std.specs.Prelude.{Option, Some, None}
use Rattle.std.proofs.Math.Decide.{dec_lt}
use Rattle.std.specs.Prelude.{slice_get}
use Rattle.std.proofs.Math.ListN.{length}
use Rattle.std.proofs.lemmas.List.{length-replicate, length-map}
use Rattle.std.proofs.lemmas.Bool.{eqb-false}
use Rattle.definition.specs.Base.{◌>>=◌, ◌or◌, ◌or_else◌, given, keep, first, find, some?, same, numbered, count}
use Rattle.definition.specs.Ascii.{bytes}
use Rattle.definition.specs.Text.{Text}
use Rattle.definition.specs.Tree.{Element}
use Rattle.definition.specs.Field.{text_in}
use Rattle.definition.specs.Format.{times, whole}
use Rattle.definition.specs.Model.{Calendar}
use Rattle.definition.specs.Pack.{calendar}
use Rattle.definition.specs.Calendar.{Named, plain_calendar, default_calendar, elapsed_calendar, main_calendar, with_uid, name_of, base_of, calendar_of, build, calendar_elements, built_calendars}
use Rattle.definition.specs.Refusal.{most_elements}
use Rattle.definition.specs.Task.{context_of, activities, is_elapsed, kept_tasks}
use Rattle.definition.specs.Resource.{resources}
use Rattle.definition.specs.Read.{calendars_of}
use Rattle.laws.specs.Options.{never}
use Rattle.laws.specs.Each.{Each}
use Rattle.laws.specs.FitRecords.{Short, FitsCalendarBy}
use Rattle.laws.specs.FitNames.{free_shape, names_in, calendars_in, added_to, build_next, keep_both, calendars_turned}
use Rattle.laws.proofs.FitNames.{built_distinct}
use Rattle.bits.specs.Places.{inside, room_fits}
use Rattle.bits.specs.Steps.{Puts}
use Rattle.bits.specs.declared.Place.{Place}
use Rattle.model.specs.declared.records.Kind.TheVariants.{Calendars}
use Rattle.pack.specs.Value.{starred_by}
use Rattle.rows.specs.Rows.{in_order, main_in, with_uid_in, has_uid}
use Rattle.names.specs.Texts.{place_of_row, text_at, texts_at}
use Rattle.names.specs.Context.{main_row, section_row, wanted_name, name_in, built_at, context_at, calendars_before}
use Rattle.names.specs.Kept.{there_inside}
use Rattle.names.specs.Records.{calendar_fields, plain_calendars_lem, lies_front, calendars_lie, texts_calendars}
use Rattle.names.specs.Carried.{before_all}
use Rattle.names.specs.Agree.{Agree, activities_agree, resources_agree}

-- ---- items by rows

elem_front : {A : Type 0} (l s : List A) (i : ℕ) → i < length l → slice_get (l ++ s) i ≡ slice_get l i
elem_front [] s i h = absurd (omega arith)
elem_front (x ∷ l) s zero h = refl
elem_front (x ∷ l) s (suc i) h = elem_front l s i (omega arith)

elem_length : {A : Type 0} (l : List A) (i : ℕ) {x : A} → slice_get l i ≡ Some x → i < length l
elem_length [] i e = never e
elem_length (y ∷ l) zero e = omega arith
elem_length (y ∷ l) (suc i) e = omega (arith, elem_length l i e)

elem_map : {A B : Type 0} (f : A → B) (l : List A) (i : ℕ) {x : A} → slice_get l i ≡ Some x → slice_get (map f l) i ≡ Some (f x)
elem_map f [] i e = never e
elem_map {A} f (y ∷ l) zero {x} e = let z : y ≡ x = cc in ap (λ (a : A). Some (f a)) z
elem_map f (y ∷ l) (suc i) e = elem_map f l i e

elem_count : {B : Type 0} (f : ℕ → B) (k n i : ℕ) → i < n → slice_get (map f (count k n)) i ≡ Some (f (k + i))
unfolding count
elem_count f k zero i h = absurd (omega arith)
elem_count {B} f k (suc n) zero h = ap (λ (j : ℕ). Some (f j)) (sym (add-zero k))
elem_count {B} f k (suc n) (suc i) h = let z : suc k + i ≡ k + suc i = omega arith in elem_count f (suc k) n i (omega arith) ∙ ap (λ (j : ℕ). Some (f j)) z

turned_before : {A : Type 0} (l r s : List A) (m i : ℕ) → i < m → m ≤ length l → slice_get ((take m l ++ r) ++ s) i ≡ slice_get l i
turned_before l r s zero i h k = absurd (omega arith)
turned_before [] r s (suc m) i h k = absurd (omega arith)
turned_before (x ∷ l) r s (suc m) zero h k = refl
turned_before (x ∷ l) r s (suc m) (suc i) h k = turned_before l r s m i (omega arith) (omega arith)

turned_behind : {A : Type 0} (l s : List A) (m j : ℕ) → m ≤ j → suc j < length l → slice_get ((take m l ++ drop (suc m) l) ++ s) j ≡ slice_get l (suc j)
turned_behind [] s m j h k = absurd (omega arith)
turned_behind (x ∷ l) s zero j h k = elem_front l s j (omega arith)
turned_behind (x ∷ l) s (suc m) zero h k = absurd (omega arith)
turned_behind (x ∷ l) s (suc m) (suc j) h k = turned_behind l s m j (omega arith) (omega arith)

beyond : (m i : ℕ) → m ≤ i → (i ≡ m → ⊥) → m < i
beyond m i h n = by_test (dec_lt m i)
  where
    by_test : Dec (m < i) → m < i
    by_test (yes l) = l
    by_test (no g) = absurd (n (omega arith))

-- the item of a row stands at its row in the section
turned_row : {A : Type 0} (c : A) (l s : List A) (m i : ℕ) → slice_get l m ≡ Some c → i < length l → slice_get ((c ∷ (take m l ++ drop (suc m) l)) ++ s) (section_row m i) ≡ slice_get l i
turned_row {A} c l s m i e h = by_row (eqb i m) (ltb i m) refl refl
  where
    later : (i : ℕ) → m < i → i < length l → slice_get ((c ∷ (take m l ++ drop (suc m) l)) ++ s) i ≡ slice_get l i
    later zero a h = absurd (omega arith)
    later (suc j) a h = turned_behind l s m j (omega arith) h

    by_row : (t o : Bool) → eqb i m ≡ t → ltb i m ≡ o → slice_get ((c ∷ (take m l ++ drop (suc m) l)) ++ s) (if t then 0 else if o then suc i else i) ≡ slice_get l i
    by_row true o et eo = let z : i ≡ m = eqb-true i m et in sym (ap (slice_get l) z ∙ e)
    by_row false true et eo = turned_before l (drop (suc m) l) s m i (ltb-true i m eo) (omega (arith, elem_length l m e))
    by_row false false et eo = later i (beyond m i (ltb-false i m eo) (eqb-false i m et)) h

-- ---- what is built from elements

pub data Pairs {A B : Type 0} (P : A → B → Type 0) : List A → List B → Type 0 where
  bare : Pairs P [] []
  more : {x : A} {y : B} {xs : List A} {ys : List B} → P x y → Pairs P xs ys → Pairs P (x ∷ xs) (y ∷ ys)

pairs_append : {A B : Type 0} {P : A → B → Type 0} {l : List A} {m : List B} {r : List A} {s : List B} → Pairs P l m → Pairs P r s → Pairs P (l ++ r) (m ++ s)
pairs_append bare q = q
pairs_append (more h p) q = more h (pairs_append p q)

-- a calendar's UID, and its wanted name with `*` behind it
pub record Shape (e : Element) (n : Named) : Type 0 where
  pub uid : n.0 ≡ (text_in e "UID" or [])
  pub stars : ℕ
  pub name : n.1.name ≡ starred_by (wanted_name e) stars

added_shape : (built : List Named) (e : Element) → Shape e (added_to built e)
unfolding calendar_of
added_shape built e = let f = free_shape (names_in built) (wanted_name e) in record { uid = refl; stars = f.stars; name = f.is }

build_shape : (done : List Named) (es : List Element) → (new : List Named) × (build done es ≡ done ++ new) × Pairs Shape es new
unfolding build
build_shape done [] = ([], sym (append-nil done), bare)
build_shape done (e ∷ es) =
    let a = added_to done e in
    let (new, z, s) = build_shape (done ++ (a ∷ [])) es in
    (a ∷ new, build_next done e es ∙ z ∙ append_assoc done (a ∷ []) new, more (added_shape done e) s)

pub built_shape : (root : Element) → Pairs Shape (in_order root) (built_calendars root)
unfolding built_calendars in_order
built_shape root =
    let es = calendar_elements root in
    let (a, y, s) = build_shape [] (keep (λ e. not (given (base_of e))) es) in
    let (b, z, t) = build_shape (build [] (keep (λ e. not (given (base_of e))) es)) (keep (λ e. given (base_of e)) es) in
    let w : built_calendars root ≡ a ++ b = z ∙ ap (λ (l : List Named). l ++ b) y in
    rw w (pairs_append s t)

-- ---- the row that is found

data Hit (b : List Named) (k : ℕ) : Option (ℕ × Element) → Option Named → Type 0 where
  miss : Hit b k None None
  hit : (j i : ℕ) (e : Element) (n : Named) → j ≡ k + i → slice_get b i ≡ Some n → Hit b k (Some (j, e)) (Some n)

hit_next : {b : List Named} {k : ℕ} (m : Named) {o : Option (ℕ × Element)} {p : Option Named} → Hit b (suc k) o p → Hit (m ∷ b) k o p
hit_next m miss = miss
hit_next m (hit j i e n z h) = hit j (suc i) e n (omega arith) h

first_hit : {l : List Element} {b : List Named} (k : ℕ) → Pairs Shape l b → Hit b k (first (numbered k l)) (first b)
unfolding first numbered
first_hit k bare = miss
first_hit k (more {x = e} {y = n} h p) = hit k 0 e n (omega arith) refl

find_hit : (u : Text) {l : List Element} {b : List Named} (k : ℕ) → Pairs Shape l b → Hit b k (find (λ (x : ℕ × Element). has_uid u x.1) (numbered k l)) (find (λ (x : Named). same x.0 u) b)
unfolding first keep numbered
find_hit u k bare = miss
find_hit u k (more {x = e} {y = n} {xs = l} {ys = b} h p) = by_test (same n.0 u) refl (find_hit u (suc k) p)
  where
    by_test : (t : Bool) → same n.0 u ≡ t → Hit b (suc k) (find (λ (x : ℕ × Element). has_uid u x.1) (numbered (suc k) l)) (find (λ (x : Named). same x.0 u) b)
        → Hit (n ∷ b) k (find (λ (x : ℕ × Element). has_uid u x.1) ((k, e) ∷ numbered (suc k) l)) (find (λ (x : Named). same x.0 u) (n ∷ b))
    by_test true z w = let y : has_uid u e ≡ true = ap (λ (t : Text). same t u) (sym h.uid) ∙ z in rw (z, y) (hit k 0 e n (omega arith) refl)
    by_test false z w = let y : has_uid u e ≡ false = ap (λ (t : Text). same t u) (sym h.uid) ∙ z in rw (z, y) (hit_next n w)

-- the main calendar is the one of its row
main_hit : (root : Element) (x : ℕ × Element) → main_in root ≡ Some x → slice_get (calendars_in (built_calendars root)) x.0 ≡ Some (main_calendar root (built_calendars root))
unfolding main_in main_calendar
main_hit root x e = by_uid (text_in root "CalendarUID") e
  where
    b : List Named
    b = built_calendars root

    is_hit : {o : Option (ℕ × Element)} {p : Option Named} → Hit b 0 o p → o ≡ Some x → slice_get (calendars_in b) x.0 ≡ Some ((p >>= λ y. Some y.1) or default_calendar)
    is_hit miss e = never e
    is_hit (hit j i y n z h) e =
        let w : ◌≡◌ {A = ℕ × Element} (j, y) x = cc in
        let v : x.0 ≡ i = sym (ap (λ (x : ℕ × Element). x.0) w) ∙ omega arith in
        rw v (elem_map (λ (n : Named). n.1) b i h)

    by_first : Hit b 0 (first (numbered 0 (in_order root))) (first b)
    by_first = first_hit 0 (built_shape root)

    by_found : {o : Option (ℕ × Element)} {p : Option Named} → Hit b 0 o p → (o or_else first (numbered 0 (in_order root))) ≡ Some x
        → slice_get (calendars_in b) x.0 ≡ Some (((p >>= λ y. Some y.1) or_else (first b >>= λ y. Some y.1)) or default_calendar)
    by_found miss e = is_hit by_first e
    by_found (hit j i y n z h) e = is_hit (hit j i y n z h) e

    by_uid : (o : Option Text) → ((o >>= with_uid_in root) or_else first (numbered 0 (in_order root))) ≡ Some x
        → slice_get (calendars_in b) x.0 ≡ Some (((o >>= λ u. with_uid u b) or_else (first b >>= λ y. Some y.1)) or default_calendar)
    by_uid None e = is_hit by_first e
    by_uid (Some u) e = by_found (find_hit u 0 (built_shape root)) e

-- ---- names and UIDs

abbrev Key : Type 0
Key = Text × Text

abbrev key_of : Named → Key
key_of n = (n.0, n.1.name)

first_key : (b : List Named) → (first b >>= λ n. Some n.1.name) ≡ (first (map key_of b) >>= λ k. Some k.1)
unfolding first
first_key [] = refl
first_key (n ∷ b) = refl

find_key : (u : Text) (b : List Named) → (find (λ (n : Named). same n.0 u) b >>= λ n. Some n.1.name) ≡ (find (λ (k : Key). same k.0 u) (map key_of b) >>= λ k. Some k.1)
unfolding keep first
find_key u [] = refl
find_key u (n ∷ b) = by_test (same n.0 u) (find_key u b)
  where
    by_test : (t : Bool) → (find (λ (n : Named). same n.0 u) b >>= λ n. Some n.1.name) ≡ (find (λ (k : Key). same k.0 u) (map key_of b) >>= λ k. Some k.1)
        → (first (if t then n ∷ keep (λ (n : Named). same n.0 u) b else keep (λ (n : Named). same n.0 u) b) >>= λ n. Some n.1.name)
        ≡ (first (if t then key_of n ∷ keep (λ (k : Key). same k.0 u) (map key_of b) else keep (λ (k : Key). same k.0 u) (map key_of b)) >>= λ k. Some k.1)
    by_test true e = refl
    by_test false e = e

name_key : (u : Text) (b : List Named) → name_of b u ≡ (find (λ (k : Key). same k.0 u) (map key_of b) >>= λ k. Some k.1)
name_key u b = by_found (find (λ (n : Named). same n.0 u) b) ∙ find_key u b
  where
    by_found : (o : Option Named) → (o >>= (λ x. Some x.1) >>= λ c. Some c.name) ≡ (o >>= λ n. Some n.1.name)
    by_found None = refl
    by_found (Some n) = refl

main_key : (root : Element) (b : List Named) → (main_calendar root b).name ≡ (((text_in root "CalendarUID" >>= name_of b) or_else (first (map key_of b) >>= λ k. Some k.1)) or bytes "Standard")
unfolding main_calendar default_calendar
main_key root b = by_uid (text_in root "CalendarUID") ∙ ap (λ (o : Option Text). ((text_in root "CalendarUID" >>= name_of b) or_else o) or bytes "Standard") (first_key b)
  where
    by_first : (o : Option Named) → ((o >>= λ n. Some n.1) or default_calendar).name ≡ ((o >>= λ n. Some n.1.name) or bytes "Standard")
    by_first None = refl
    by_first (Some n) = refl

    by_found : (c : Option Calendar) (o : Option Named) → ((c or_else (o >>= λ n. Some n.1)) or default_calendar).name ≡ (((c >>= λ c. Some c.name) or_else (o >>= λ n. Some n.1.name)) or bytes "Standard")
    by_found None o = by_first o
    by_found (Some c) o = refl

    by_uid : (o : Option Text) → (((o >>= λ u. with_uid u b) or_else (first b >>= λ n. Some n.1)) or default_calendar).name ≡ (((o >>= name_of b) or_else (first b >>= λ n. Some n.1.name)) or bytes "Standard")
    by_uid None = by_first (first b)
    by_uid (Some u) = by_found (with_uid u b) (first b)

module _ (root : Element) (b b' : List Named) (e : map key_of b ≡ map key_of b') where
  keys_name : (u : Text) → name_of b u ≡ name_of b' u
  keys_name u = name_key u b ∙ ap (λ (l : List Key). find (λ (k : Key). same k.0 u) l >>= λ k. Some k.1) e ∙ sym (name_key u b')

  keys_main : (main_calendar root b).name ≡ (main_calendar root b').name
  keys_main = main_key root b ∙ by_uid (text_in root "CalendarUID") ∙ sym (main_key root b')
    where
      by_uid : (o : Option Text) → (((o >>= name_of b) or_else (first (map key_of b) >>= λ k. Some k.1)) or bytes "Standard") ≡ (((o >>= name_of b') or_else (first (map key_of b') >>= λ k. Some k.1)) or bytes "Standard")
      by_uid None = ap (λ (l : List Key). (first l >>= λ k. Some k.1) or bytes "Standard") e
      by_uid (Some u) =
          ap (λ (o : Option Text). (o or_else (first (map key_of b) >>= λ k. Some k.1)) or bytes "Standard") (keys_name u)
          ∙ ap (λ (l : List Key). (name_of b' u or_else (first l >>= λ k. Some k.1)) or bytes "Standard") e

-- the keys of what is built, from its elements and their names by rows
keys_pairs : (f : ℕ × Element → Text) (k : ℕ) {l : List Element} {b : List Named} → Pairs Shape l b → ((i : ℕ) (e : Element) (n : Named) → Shape e n → slice_get b i ≡ Some n → f (k + i, e) ≡ n.1.name)
    → map key_of (map (λ (x : ℕ × Element). (text_in x.1 "UID" or [], plain_calendar (f x) [] [])) (numbered k l)) ≡ map key_of b
unfolding numbered
keys_pairs f k bare h = refl
keys_pairs f k (more {x = e} {y = n} {xs = l} {ys = b} s p) h =
    let z : f (k, e) ≡ n.1.name = ap (λ (j : ℕ). f (j, e)) (sym (add-zero k)) ∙ h 0 e n s refl in
    let w = keys_pairs f (suc k) p (λ i e n s g. ap (λ (j : ℕ). f (j, e)) (suc_in k i) ∙ h (suc i) e n s g) in
    let y = sym s.uid in
    λ i. (y i, z i) ∷ w i
  where
    suc_in : (k i : ℕ) → suc k + i ≡ k + suc i
    suc_in k i = omega arith

-- ---- how many there are

pairs_length : {A B : Type 0} {P : A → B → Type 0} {l : List A} {m : List B} → Pairs P l m → length l ≡ length m
pairs_length bare = refl
pairs_length (more h p) = ap suc (pairs_length p)

turned_length : {A : Type 0} (c : A) (l s : List A) (m : ℕ) → m < length l → length l ≤ length ((c ∷ (take m l ++ drop (suc m) l)) ++ s)
turned_length c l s m h =
    omega (arith, length-append (c ∷ (take m l ++ drop (suc m) l)) s, length-append (take m l) (drop (suc m) l), length-take-le m l (omega arith), length-drop (suc m) l)

pub order_length : (root : Element) → length (in_order root) ≡ length (calendar_elements root)
unfolding in_order
order_length root =
    length-append (keep (λ e. not (given (base_of e))) (calendar_elements root)) (keep (λ e. given (base_of e)) (calendar_elements root)) ∙ keep_both (λ e. given (base_of e)) (calendar_elements root)

-- ---- the names in the buffer

none_built : (root : Element) → main_in root ≡ None → built_calendars root ≡ []
unfolding main_in first
none_built root e = empty_if (built_calendars root) (missed (first_hit 0 (built_shape root)) (none_first (text_in root "CalendarUID" >>= with_uid_in root) e))
  where
    none_first : (o : Option (ℕ × Element)) → (o or_else first (numbered 0 (in_order root))) ≡ None → first (numbered 0 (in_order root)) ≡ None
    none_first None e = e
    none_first (Some x) e = never (sym e)

    empty_if : (b : List Named) → first b ≡ None → b ≡ []
    empty_if [] e = refl
    empty_if (n ∷ b) e = never (sym e)

    missed : {o : Option (ℕ × Element)} {p : Option Named} → Hit (built_calendars root) 0 o p → o ≡ None → p ≡ None
    missed miss e = refl
    missed (hit j i x n z h) e = never (sym e)

main_row_lem : (root : Element) (y : ℕ × Element) → main_in root ≡ Some y → main_row root ≡ y.0
main_row_lem root y e = ap (λ (o : Option (ℕ × Element)). (o >>= λ x. Some x.0) or 0) e

turned : (root : Element) (y : ℕ × Element) → main_in root ≡ Some y
    → calendars_of (context_of root)
    ≡ (main_calendar root (built_calendars root) ∷ (take y.0 (calendars_in (built_calendars root)) ++ drop (suc y.0) (calendars_in (built_calendars root)))) ++ (if some? is_elapsed (kept_tasks root) then elapsed_calendar ∷ [] else [])
unfolding context_of
turned root y e = calendars_turned (context_of root) y.0 (built_distinct root) (main_hit root y e)

-- the row of a built calendar in the section
section_elem : (root : Element) (j : ℕ) (n : Named) → slice_get (built_calendars root) j ≡ Some n → slice_get (calendars_of (context_of root)) (section_row (main_row root) j) ≡ Some n.1
section_elem root j n g = by_main (main_in root) refl
  where
    by_main : (o : Option (ℕ × Element)) → main_in root ≡ o → slice_get (calendars_of (context_of root)) (section_row (main_row root) j) ≡ Some n.1
    by_main None e = never (sym (ap (λ (l : List Named). slice_get l j) (none_built root e)) ∙ g)
    by_main (Some y) e =
        let c = elem_map (λ (n : Named). n.1) (built_calendars root) j g in
        rw (main_row_lem root y e, turned root y e) (turned_row (main_calendar root (built_calendars root)) (calendars_in (built_calendars root)) _ y.0 j (main_hit root y e) (elem_length (calendars_in (built_calendars root)) j c) ∙ c)

all_enough : (root : Element) → length (in_order root) ≤ length (calendars_of (context_of root))
all_enough root = by_main (main_in root) refl
  where
    by_main : (o : Option (ℕ × Element)) → main_in root ≡ o → length (in_order root) ≤ length (calendars_of (context_of root))
    by_main None e = let z : length (in_order root) ≡ 0 = pairs_length (built_shape root) ∙ ap length (none_built root e) in omega arith
    by_main (Some y) e =
        let cs = calendars_in (built_calendars root) in
        let z : length (in_order root) ≡ length cs = pairs_length (built_shape root) ∙ sym (length-map (built_calendars root) (λ (n : Named). n.1)) in
        rw (z, turned root y e) (turned_length (main_calendar root (built_calendars root)) cs _ y.0 (elem_length cs y.0 (main_hit root y e)))

stars_back : (w t : Text) (k : ℕ) → t ≡ starred_by w k → starred_by w (length t - length w) ≡ t
stars_back w t k e =
    let n : length t ≡ length w + k = ap length e ∙ length-append w (replicate k 42) ∙ ap (λ (m : ℕ). length w + m) (length-replicate k 42) in
    let z : length t - length w ≡ k = omega arith in
    rw z (sym e)

-- all calendars were put, the main one first
module _ (k : ℕ) (root : Element) {d₀ : List ℕ} {c : Place} {d : List ℕ} {q : Place} (x : Puts (times k (whole calendar)) (calendars_of (context_of root)) d₀ c d q) (i : inside (length d) q ≡ true) (h : Each (FitsCalendarBy Short) (calendars_of (context_of root))) where
  text_row : (j : ℕ) (y : Calendar) → slice_get (calendars_of (context_of root)) j ≡ Some y → text_at Calendars d c j ≡ y.name
  unfolding texts_at
  text_row j y e =
      let all = calendars_of (context_of root) in
      let t = texts_calendars k x i h in
      let z : Some (text_at Calendars d c (0 + j)) ≡ Some y.name =
      sym (elem_count (text_at Calendars d c) 0 (length all) j (elem_length all j e)) ∙ ap (λ (l : List Text). slice_get l j) t ∙ elem_map (λ (c : Calendar). c.name) all j e in
      let w : text_at Calendars d c (0 + j) ≡ y.name = cc in
      ap (text_at Calendars d c) (sym (zero-add j)) ∙ w

  keys_same : map key_of (built_at d c root) ≡ map key_of (built_calendars root)
  unfolding built_at
  keys_same =
      keys_pairs (name_in d c root) 0 (built_shape root)
      (λ j e n s g.
      let t = text_row (section_row (main_row root) j) n.1 (section_elem root j n g) in
      ap (λ (i : ℕ). name_in d c root (i, e)) (zero-add j) ∙ ap (λ (t : Text). starred_by (wanted_name e) (length t - length (wanted_name e))) t ∙ stars_back (wanted_name e) n.1.name s.stars s.name)

  pub agrees : Agree (context_at d c root) (context_of root)
  unfolding context_at context_of
  agrees = record {
    per_day = refl;
    names = keys_name root (built_at d c root) (built_calendars root) keys_same;
    main = keys_main root (built_at d c root) (built_calendars root) keys_same;
    tasks = refl;
  }

  pub same_activities : (e : ℕ → Bool) → activities (context_at d c root) e ≡ activities (context_of root) e
  same_activities e = activities_agree agrees e

  pub same_resources : resources (context_at d c root) root ≡ resources (context_of root) root
  same_resources = resources_agree agrees root

  pub calendars_stand : length (calendar_elements root) ≤ most_elements → calendars_before d c root q ≡ true
  calendars_stand m =
      let n = length (in_order root) in
      let fs = map calendar_fields (calendars_of (context_of root)) in
      let lf : length fs ≡ length (calendars_of (context_of root)) = length-map (calendars_of (context_of root)) calendar_fields in
      let lt : length (take n fs) ≡ n = length-take-le n fs (omega (arith, all_enough root)) in
      let l = calendars_lie k x i h in
      let (a, b) = lies_front plain_calendars_lem (take n fs) (drop n fs) (rw (← take-append-drop n fs) at l) in
      let f = room_fits (length d) (place_of_row Calendars d c (length (take n fs))) 0 (there_inside a.there) in
      before_all (record { few = le-leb n most_elements (omega (arith, order_length root)); last = rw (← lt) (record { bit = f.bit; upto = b }) })
