-- Which trees are read, and what reading answers then: a tree that passes the five tests is given as its model wherever there is room, and is refused with 9
-- only where there is none; any other is refused with its own number. Assumes nothing.
use Rattle.std.specs.Prelude.{if◌then◌else◌, ◌≡◌, refl, ◌↔◌, Bool, true, false, not, List, [], ℕ, ◌≤◌, ◌<◌, leb, ltb, length}
use Rattle.std.proofs.Common.{sym, ap, true≢false, arith, ltb-false, le-ltb, lt-ltb, le-leb}
use Rattle.std.proofs.lemmas.Bool.{lt-leb}
use Rattle.definition.specs.Base.{every?, some?}
use Rattle.definition.specs.Text.{Text}
use Rattle.definition.specs.Tree.{records, layout, below_root}
use Rattle.definition.specs.Read.{model_of}
use Rattle.definition.specs.Pack.{encode}
use Rattle.definition.specs.Refusal.{Answer, refused, gives, in_room, most_elements, utf8?, project?, too_long, tree_refusal, unless, read_answer}
use Rattle.theorems.specs.Told.{root_of}

-- ---- the five tests

-- the layout is kept, each name and text is UTF-8, there are not too many elements, the root is Project, and no number below it is too long
pub record Accepted (s : Text) : Type 0 where
  pub laid : layout s ≡ true
  pub utf8 : every? utf8? (records s) ≡ true
  pub few : length (records s) ≤ 5000000
  pub project : project? (records s) ≡ true
  pub short : some? too_long (below_root (records s)) ≡ false

pub accepted : (s : Text) → tree_refusal s ≡ 0 → Accepted s
unfolding tree_refusal
accepted s h = by (layout s) (every? utf8? (records s)) (ltb most_elements (length (records s))) (project? (records s)) (some? too_long (below_root (records s))) refl refl refl refl refl h
  where
    by : (l u m p t : Bool) → layout s ≡ l → every? utf8? (records s) ≡ u → ltb most_elements (length (records s)) ≡ m → project? (records s) ≡ p
        → some? too_long (below_root (records s)) ≡ t
        → ◌≡◌ {A = ℕ} (if not l then 1 else if not u then 2 else if m then 3 else if not p then 4 else if t then 5 else 0) 0 → Accepted s
    by true true false true false a b c d e k = record { laid = a; utf8 = b; few = ltb-false most_elements (length (records s)) c; project = d; short = e }
    by true true false true true a b c d e k = absurd (omega arith)
    by true true false false t a b c d e k = absurd (omega arith)
    by true true true p t a b c d e k = absurd (omega arith)
    by true false m p t a b c d e k = absurd (omega arith)
    by false u m p t a b c d e k = absurd (omega arith)

-- a tree is not refused exactly when it passes them
pub accepted_iff : (s : Text) → (tree_refusal s ≡ 0) ↔ Accepted s
unfolding tree_refusal
accepted_iff s = (accepted s, λ a. rw (a.laid, a.utf8, le-ltb most_elements (length (records s)) a.few, a.project, a.short))

-- ---- the answer

pub given : (s : Text) (room : ℕ) → tree_refusal s ≡ 0 → length (encode (model_of (root_of s))) ≤ room → read_answer s room ≡ gives (encode (model_of (root_of s)))
unfolding read_answer in_room
given s room h k = rw (h, le-leb (length (encode (model_of (root_of s)))) room k)

pub only_nine : (s : Text) (room : ℕ) → tree_refusal s ≡ 0 → room < length (encode (model_of (root_of s))) → read_answer s room ≡ refused 9
unfolding read_answer in_room
only_nine s room h k = rw (h, lt-leb (length (encode (model_of (root_of s)))) room k)

pub refused_as : (s : Text) (room : ℕ) → 0 < tree_refusal s → read_answer s room ≡ refused (tree_refusal s)
unfolding read_answer
refused_as s room h = rw (lt-ltb 0 (tree_refusal s) h)

-- ---- an answer that gives

abbrev bytes_in : Answer → List ℕ
bytes_in (refused n) = []
bytes_in (gives l) = l

abbrev is_given : Answer → Bool
is_given (refused n) = false
is_given (gives l) = true

unless_given : (n : ℕ) (a : Answer) (l : List ℕ) → unless n a ≡ gives l → (n ≡ 0) × (a ≡ gives l)
unless_given n a l h = by (ltb 0 n) refl h
  where
    by : (t : Bool) → ltb 0 n ≡ t → (if t then refused n else a) ≡ gives l → (n ≡ 0) × (a ≡ gives l)
    by true e k = absurd (true≢false (sym (ap is_given k)))
    by false e k = (omega (arith, ltb-false 0 n e), k)

in_room_lem : (t : Bool) (m l : List ℕ) → (if t then gives m else refused 9) ≡ gives l → m ≡ l
in_room_lem true m l h = ap bytes_in h
in_room_lem false m l h = absurd (true≢false (sym (ap is_given h)))

-- it is of a tree that is not refused, and the bytes are those of its model
pub what_given : (s : Text) (room : ℕ) (l : List ℕ) → read_answer s room ≡ gives l → (tree_refusal s ≡ 0) × (encode (model_of (root_of s)) ≡ l)
unfolding read_answer in_room
what_given s room l h =
    let m = encode (model_of (root_of s)) in
    let (z, k) = unless_given (tree_refusal s) (in_room room m) l h in
    (z, in_room_lem (leb (length m) room) m l k)
