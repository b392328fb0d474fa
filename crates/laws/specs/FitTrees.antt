-- The texts of a tree are short: a head has 16 bits for the length of a text, and 9 for that of a name. How many elements there are at most.
-- Assumes nothing.
use Rattle.std.specs.Prelude.{if◌then◌else◌, Bool, not, ℕ, zero, suc, ◌+◌, ◌≤◌, ◌<◌, leb, ltb, eqb, length, take, drop, get_or, replicate}
use Rattle.std.proofs.Math.Bool.{true, false}
use mathlib.Core.List.{List, [], ◌∷◌, ◌++◌, reverse, reverse_aux}
use Rattle.std.specs.Prelude.{Option}
use Prim.Native.String.{String}
use Rattle.std.proofs.Common.{arith, length-append, length-take, length-drop}
use Rattle.std.proofs.lemmas.List.{length-replicate, length-reverse}
use Rattle.definition.specs.Base.{keep, same}
use Rattle.definition.specs.Ascii.{bytes}
use Rattle.definition.specs.Text.{Text, strip, front_width, back_width, trim_front, trim_back, trim}
use Rattle.definition.specs.Tree.{Rec, body_of, Forest, nothing, one, Element, elements, level, element, all, child, non_empty, text_of, all_in}
use Rattle.definition.specs.Field.{text_in}
use Rattle.definition.specs.Calendar.{calendar_elements}
use Rattle.definition.specs.Task.{most_tasks, is_kept, kept_tasks}
use Rattle.definition.specs.Resource.{is_resource, is_cost, resource_elements, work_resources, cost_resources, assignment_elements}
use Rattle.laws.specs.Each.{Each, empty, next, each_append, each_take, each_drop, each_replicate}
use Rattle.laws.specs.Bits.{Bytes}
use Rattle.laws.specs.FitRecords.{Short}
use Rattle.laws.specs.FitLists.{each_keep, each_first, Perhaps, missing, there, perhaps_when, perhaps_bind}

-- ---- elements of which each name and text is so

pub data Throughout (P : Text → Type 0) : Forest → Type 0 where
  nowhere : Throughout P nothing
  along : {n t : Text} {c r : Forest} → P n → P t → Throughout P c → Throughout P r → Throughout P (one n t c r)

pub record Holds (P : Text → Type 0) (e : Element) : Type 0 where
  pub name : P e.name
  pub text : P e.text
  pub below : Throughout P e.below

-- a record's name and text
abbrev pub OfRecord : (Text → Type 0) → Rec → Type 0
OfRecord P r = P r.name × P r.text

module _ {P : Text → Type 0} where
  each_element : {f : Forest} → Throughout P f → Each (Holds P) (elements f)
  unfolding elements
  each_element nowhere = empty
  each_element (along n t c r) = next (record { name = n; text = t; below = c }) (each_element r)

  pub holds_all : {e : Element} → Holds P e → (n : Text) → Each (Holds P) (all e n)
  unfolding all
  holds_all h n = each_keep (λ (c : Element). same c.name n) (each_element h.below)

  pub holds_child : {e : Element} → Holds P e → (n : Text) → Perhaps (Holds P) (child e n)
  unfolding child
  holds_child h n = each_first (holds_all h n)

  pub holds_in : {o : Option Element} → Perhaps (Holds P) o → (n : Text) → Each (Holds P) (all_in o n)
  holds_in missing n = empty
  holds_in (there h) n = holds_all h n

  -- two levels down
  pub holds_below : {e : Element} → Holds P e → (n m : Text) → Each (Holds P) (all_in (child e n) m)
  holds_below h n m = holds_in (holds_child h n) m

  pub holds_calendars : {root : Element} → Holds P root → Each (Holds P) (calendar_elements root)
  holds_calendars h = holds_below h (bytes "Calendars") (bytes "Calendar")

  pub holds_tasks : {root : Element} → Holds P root → Each (Holds P) (kept_tasks root)
  unfolding kept_tasks
  holds_tasks h = each_keep is_kept (each_take most_tasks (holds_below h (bytes "Tasks") (bytes "Task")))

  pub holds_resources : {root : Element} → Holds P root → Each (Holds P) (resource_elements root)
  holds_resources h = each_keep is_resource (holds_below h (bytes "Resources") (bytes "Resource"))

  pub holds_work : {root : Element} → Holds P root → Each (Holds P) (work_resources root)
  holds_work h = each_keep (λ r. not (is_cost r)) (holds_resources h)

  pub holds_costs : {root : Element} → Holds P root → Each (Holds P) (cost_resources root)
  holds_costs h = each_keep is_cost (holds_resources h)

  -- a level of the records
  holds_level : (depth : ℕ) {rs : List Rec} → Each (OfRecord P) rs → Throughout P (level depth rs)
  unfolding level
  holds_level depth empty = nowhere
  holds_level depth (next {x = r} {l = rs} h hs) = go (ltb r.depth depth) (eqb r.depth depth) (holds_level (depth + 1) hs) (holds_level depth hs)
    where
      go : (t u : Bool) → Throughout P (level (depth + 1) rs) → Throughout P (level depth rs)
          → Throughout P (if t then nothing else if u then one r.name r.text (level (depth + 1) rs) (level depth rs) else level depth rs)
      go true u a b = nowhere
      go false true a b = along h.0 h.1 a b
      go false false a b = b

  pub holds_element : P [] → {rs : List Rec} → Each (OfRecord P) rs → Holds P (element rs)
  unfolding element
  holds_element p empty = record { name = p; text = p; below = nowhere }
  holds_element p (next {x = r} h hs) = record { name = h.0; text = h.1; below = holds_level (r.depth + 1) hs }

-- ---- records of bytes

-- bytes, of which a head can tell how many they are
abbrev pub Slim : Text → Type 0
Slim s = (length s ≤ 65535) × Bytes s

abbrev pub SlimRecord : Rec → Type 0
SlimRecord = OfRecord Slim

abbrev pub Taken : Rec × Text → Type 0
Taken x = SlimRecord x.0 × Bytes x.1

pub slim_body : (depth n t : ℕ) {s : Text} → n ≤ 65535 → t ≤ 65535 → Bytes s → Perhaps Taken (body_of depth n t s)
slim_body depth n t {s} hn ht b =
    let p : length (take n s) ≤ 65535 = rw length-take (omega arith) in
    let q : length (take t (drop n s)) ≤ 65535 = rw length-take (omega arith) in
    perhaps_when (leb (n + t) (length s)) _ (λ e. (((p, each_take n b), (q, each_take t (each_drop n b))), each_drop (n + t) b))

abbrev pub Small : Element → Type 0
Small = Holds Slim

-- ---- texts of a tree, and texts of records: those, or those with stars behind

pub record Texts (S T : Text → Type 0) : Type 0 where
  pub plain : (s : Text) → Each (λ b. b < 128) s → length s ≤ 65535 → S s
  pub trims : (s : Text) → S s → S (trim s)
  pub stars : (s : Text) (k : ℕ) → S s → k ≤ 5000000 → T (s ++ replicate k 42)

strip_most : (width : ℕ → ℕ → ℕ → ℕ) (n : ℕ) (s : Text) → length (strip width n s) ≤ length s
unfolding strip
strip_most width zero s = omega arith
strip_most width (suc n) s =
    let w = width (get_or s 0 0) (get_or s 1 0) (get_or s 2 0) in
    omega (arith, strip_most width n (drop w s), length-drop w s)

strip_bytes : (width : ℕ → ℕ → ℕ → ℕ) (n : ℕ) {s : Text} → Bytes s → Bytes (strip width n s)
unfolding strip
strip_bytes width zero b = b
strip_bytes width (suc n) {s} b = strip_bytes width n (each_drop (width (get_or s 0 0) (get_or s 1 0) (get_or s 2 0)) b)

each_turned : {A : Type 0} {P : A → Type 0} {l r : List A} → Each P l → Each P r → Each P (reverse_aux l r)
each_turned empty k = k
each_turned (next h hs) k = each_turned hs (next h k)

each_reverse : {A : Type 0} {P : A → Type 0} {l : List A} → Each P l → Each P (reverse l)
each_reverse h = each_turned h empty

slim_trim : (s : Text) → Slim s → Slim (trim s)
unfolding trim trim_front trim_back
slim_trim s (l, b) =
    let f = strip front_width (length s) s in
    let r = strip back_width (length f) (reverse f) in
    let k : length r ≤ length f = omega (arith, strip_most back_width (length f) (reverse f), length-reverse f) in (
      omega (arith, strip_most front_width (length s) s, length-reverse r),
      each_reverse (strip_bytes back_width (length f) (each_reverse (strip_bytes front_width (length s) b))),
    )

each_below : {m n : ℕ} → m ≤ n → {s : Text} → Each (λ b. b < m) s → Each (λ b. b < n) s
each_below h empty = empty
each_below h (next {x = x} k ks) = next {x = x} (omega arith) (each_below h ks)

pub slim_texts : Texts Slim Short
slim_texts = record {
  plain = λ s a l. (l, each_below (omega arith) a);
  trims = slim_trim;
  stars = λ s k h m. (rw (length-append, length-replicate) (omega (arith, h.0)), each_append h.1 (each_replicate k 42 (omega arith)));
}

-- what an element says
pub says : {S T : Text → Type 0} → Texts S T → {e : Element} → Holds S e → (n : String) → Perhaps S (text_in e n)
unfolding text_of
says {S} texts h n = perhaps_bind (holds_child h (bytes n)) (λ c k. given (trim c.text) (texts.trims c.text k.text))
  where
    given : (s : Text) → S s → Perhaps S (non_empty s)
    given [] k = missing
    given (b ∷ s) k = there k

-- ---- how many elements

pub keep_most : {A : Type 0} (test : A → Bool) (l : List A) → length (keep test l) ≤ length l
unfolding keep
keep_most test [] = omega arith
keep_most {A} test (x ∷ l) = by (test x) (keep_most test l)
  where
    by : (t : Bool) → length (keep test l) ≤ length l → length (if t then x ∷ keep test l else keep test l) ≤ suc (length l)
    by true h = omega arith
    by false h = omega arith

take_most : {A : Type 0} (n : ℕ) (l : List A) → length (take n l) ≤ n
take_most n l = rw length-take (omega arith)

through : {a b c : ℕ} → a ≤ b → b ≤ c → a ≤ c
through h k = omega arith

level_most : (depth : ℕ) (rs : List Rec) → length (elements (level depth rs)) ≤ length rs
unfolding level elements
level_most depth [] = omega arith
level_most depth (r ∷ rs) = by (ltb r.depth depth) (eqb r.depth depth) (level_most depth rs)
  where
    by : (t u : Bool) → length (elements (level depth rs)) ≤ length rs
        → length (elements (if t then nothing else if u then one r.name r.text (level (depth + 1) rs) (level depth rs) else level depth rs)) ≤ suc (length rs)
    by true u h = omega arith
    by false true h = omega arith
    by false false h = omega arith

-- at most k children
abbrev Few : ℕ → Element → Type 0
Few k e = length (elements e.below) ≤ k

level_few : (k depth : ℕ) (rs : List Rec) → length rs ≤ k → Each (Few k) (elements (level depth rs))
unfolding level elements
level_few k depth [] h = empty
level_few k depth (r ∷ rs) h = by (ltb r.depth depth) (eqb r.depth depth) (level_few k depth rs (omega arith))
  where
    by : (t u : Bool) → Each (Few k) (elements (level depth rs))
        → Each (Few k) (elements (if t then nothing else if u then one r.name r.text (level (depth + 1) rs) (level depth rs) else level depth rs))
    by true u more = empty
    by false true more =
        next {x = record { name = r.name; text = r.text; below = level (depth + 1) rs }} (omega (arith, level_most (depth + 1) rs)) more
    by false false more = more

all_most : (e : Element) (n : Text) → length (all e n) ≤ length (elements e.below)
unfolding all
all_most e n = keep_most (λ (c : Element). same c.name n) (elements e.below)

element_few : (rs : List Rec) → Each (Few (length rs)) (elements (element rs).below)
unfolding element elements
element_few [] = empty
element_few (r ∷ rs) = level_few (suc (length rs)) (r.depth + 1) rs (omega arith)

-- two levels down from the root
pub found_most : (rs : List Rec) (n m : Text) → length (all_in (child (element rs) n) m) ≤ length rs
unfolding child all
found_most rs n m = by (each_first (each_keep (λ (c : Element). same c.name n) (element_few rs)))
  where
    by : {o : Option Element} → Perhaps (Few (length rs)) o → length (all_in o m) ≤ length rs
    by missing = omega arith
    by (there {a = e} h) = omega (arith, all_most e m)

pub calendars_most : (rs : List Rec) → length (calendar_elements (element rs)) ≤ length rs
calendars_most rs = found_most rs (bytes "Calendars") (bytes "Calendar")

pub resources_most : (rs : List Rec) → length (work_resources (element rs)) ≤ length rs
resources_most rs =
    let es = all_in (child (element rs) (bytes "Resources")) (bytes "Resource") in
    omega (arith, found_most rs (bytes "Resources") (bytes "Resource"), keep_most is_resource es, keep_most (λ r. not (is_cost r)) (keep is_resource es))

pub assignments_most : (rs : List Rec) → length (assignment_elements (element rs)) ≤ length rs
assignments_most rs = found_most rs (bytes "Assignments") (bytes "Assignment")

pub tasks_most : (root : Element) → length (kept_tasks root) ≤ most_tasks
unfolding kept_tasks
tasks_most root =
    let es = all_in (child root (bytes "Tasks")) (bytes "Task") in
    through (keep_most is_kept (take most_tasks es)) (take_most most_tasks es)
