-- The calendars of a tree and the names by which they are found. Assumes nothing.
use mathlib.Core.Path.{◌≡◌, refl, sym, ap, ◌∙◌}
use mathlib.Core.Bool.{Bool, true, false, not, ◌&&◌}
use Rattle.std.specs.Bool.{then_some}
use mathlib.Core.List.{List, ◌∷◌, []}
use Rattle.std.specs.Prelude.{Option, Some, None}
use Rattle.std.specs.Option.{MatchOption}
use Prim.Native.Nat.{ℕ, ◌*◌, ◌-◌, ◌/◌, ◌^◌, ◌≤◌, ◌<◌}
use native.Mathlib.Omega.{arith}
use lib.Dec.{leb, ltb}
use lib.ListN.{length}
use borrow.Author.Tests.{lt-ltb, le-leb, lt-leb, ltb-true, leb-true, leb-false}
use Rattle.definition.specs.Base.{◌>>=◌, ◌or◌, when, same}
use Rattle.definition.specs.Text.{Text, trim}
use Rattle.definition.specs.Tree.{Element, child, non_empty, text_of}
use Rattle.definition.specs.Calendar.{calendar_elements}
use Rattle.definition.specs.Refusal.{most_elements}
use Rattle.definition.specs.Task.{unless_main}
use Rattle.bits.specs.Places.{at, up_to}
use Rattle.bits.specs.declared.Place.{Place}
use Rattle.model.specs.declared.records.Kind.TheVariants.{Calendars}
use Rattle.pack.specs.Value.{starred_by, name_meaning}
use Rattle.rows.specs.Rows.{calendar_meaning, main_in}
use Rattle.tree.specs.Place.{meaning}
use Rattle.tree.specs.declared.element.Element.{Element as Standing}
use Rattle.model.specs.Answers.{read_at}
use Rattle.model.specs.Parts.{raw}
use Rattle.names.specs.Texts.{place_of_row}
use Rattle.names.specs.Turned.{order_length}
use Rattle.names.specs.Seen.{row_text, raw_length}
use Rattle.names.specs.Context.{main_row, section_row, wanted_name, stars_by, stars_in, name_in, context_at, calendars_before}

-- ---- what a look-up answered

module _ (r : Option (ℕ × Standing)) {o : Option (ℕ × Element)} (h : calendar_meaning r ≡ o) where
  pub is_there : {row : ℕ} {x : Standing} → r ≡ Some (row, x) → o ≡ Some (row, meaning x)
  unfolding calendar_meaning
  is_there e = sym h ∙ rw e

  pub is_absent : r ≡ None → o ≡ None
  unfolding calendar_meaning
  is_absent e = sym h ∙ rw e

pub row_is : (root : Element) (r : Option (ℕ × Standing)) → calendar_meaning r ≡ main_in root → {n : ℕ} → MatchOption r (n ≡ 0) (λ x. n ≡ x.0) → n ≡ main_row root
unfolding calendar_meaning
row_is root None h k = k ∙ ap (λ (o : Option (ℕ × Element)). (o >>= λ x. Some x.0) or 0) h
row_is root (Some (row, x)) h k = k ∙ ap (λ (o : Option (ℕ × Element)). (o >>= λ x. Some x.0) or 0) h

-- ---- the names

-- an empty text counts as missing
module _ (e : Element) (n other : Text) {t : Text} (h : t ≡ (text_of e n or [])) where
  pub wanted_not : length t ≡ 0 → other ≡ (text_of e n or other)
  unfolding text_of
  wanted_not z = by_child (child e n) (ap length (sym h) ∙ z)
    where
      by_text : (s : Text) → length (non_empty s or []) ≡ 0 → other ≡ (non_empty s or other)
      by_text [] z = refl
      by_text (b ∷ s) z = absurd (omega arith)

      by_child : (o : Option Element) → length ((o >>= λ c. non_empty (trim c.text)) or []) ≡ 0 → other ≡ ((o >>= λ c. non_empty (trim c.text)) or other)
      by_child None z = refl
      by_child (Some c) z = by_text (trim c.text) z

-- how many `*` a name has, by its length and that of the wanted name
module _ (d : List ℕ) (p : Place) (e : Element) {t w : Text} (ht : t ≡ ((read_at raw d p).0 or [])) (hw : w ≡ wanted_name e) where
  pub stars_fit : length t - length w < 2 ^ 32
  stars_fit = let z : length t < 2 ^ 32 = rw ht (raw_length d p) in omega arith

module _ (d : List ℕ) (c : Place) (root : Element) where
  -- ---- what the functions answer

  pub unless_by : (t : Text) (k : ℕ) {b : Bool} → b ≡ same (starred_by t k) (context_at d c root).main.name → name_meaning t (then_some (not b) k) ≡ unless_main (context_at d c root) (starred_by t k)
  unfolding name_meaning
  unless_by t k {b} h = rw (sym h) (by_test b)
    where
      by_test : (b : Bool) → name_meaning t (then_some (not b) k) ≡ when (not b) (starred_by t k)
      by_test true = refl
      by_test false = refl

  module _ (row : ℕ) (e : Element) {w : Text} (hw : w ≡ wanted_name e) where
    pub main_same : (t : Text) {k : ℕ} → k ≡ stars_in d c root row e → same t (starred_by w k) ≡ same t (name_in d c root (row, e))
    main_same t {k} h = ap (λ (x : Text). same t (starred_by x k)) hw ∙ ap (λ (k : ℕ). same t (starred_by (wanted_name e) k)) h

  -- the row's record, and how many `*` its name has
  pub stars_row : (row : ℕ) (e : Element) {m k : ℕ} {q : Place} {n : ℕ} → m ≡ main_row root → k ≡ section_row m row → q ≡ place_of_row Calendars d c k → n ≡ stars_by ((read_at raw d q).0 or []) e
      → n ≡ stars_in d c root row e
  stars_row row e {m} {k} {q} hm hk hq h =
      let r : k ≡ section_row (main_row root) row = hk ∙ ap (λ (m : ℕ). section_row m row) hm in
      h ∙ ap (λ (t : Text). stars_by t e) (row_text Calendars (section_row (main_row root) row) d c (hq ∙ ap (place_of_row Calendars d c) r) refl)

  pub too_many : (p : Place) → most_elements < length (calendar_elements root) → false ≡ calendars_before d c root p
  unfolding calendars_before
  too_many p h = rw (order_length root, lt-leb (length (calendar_elements root)) most_elements h)

  pub few : (p : Place) (r : Bool) (n : ℕ) → n ≡ length (calendar_elements root) → n ≤ most_elements → r ≡ up_to (place_of_row Calendars d c n) p → r ≡ calendars_before d c root p
  unfolding calendars_before
  few p r n e h k = k ∙ rw (order_length root, ← e, le-leb n most_elements h)

-- ---- places

pub up_not : (p q : Place) → (p.bit < 8 → at q < at p) → false ≡ up_to p q
unfolding up_to
up_not p q h = not_if (ltb p.bit 8) refl
  where
    not_if : (t : Bool) → ltb p.bit 8 ≡ t → false ≡ (t && leb (at p) (at q))
    not_if true e = sym (lt-leb (at p) (at q) (h (ltb-true p.bit 8 e)))
    not_if false e = refl

pub up_is : (p q : Place) → p.bit < 8 → at p ≤ at q → true ≡ up_to p q
unfolding up_to
up_is p q b h = rw (lt-ltb p.bit 8 b, le-leb (at p) (at q) h)

-- the other place stands a number of bytes before
pub up_rest : (p q : Place) → q.byte ≤ p.byte → p.byte - q.byte ≤ q.bit / 8 → leb p.bit (q.bit - (p.byte - q.byte) * 8) ≡ leb (at p) (at q)
up_rest p q h k = by_test (leb (at p) (at q)) refl
  where
    by_test : (t : Bool) → leb (at p) (at q) ≡ t → leb p.bit (q.bit - (p.byte - q.byte) * 8) ≡ t
    by_test true e = le-leb p.bit (q.bit - (p.byte - q.byte) * 8) (omega (arith, leb-true (at p) (at q) e))
    by_test false e = lt-leb p.bit (q.bit - (p.byte - q.byte) * 8) (omega (arith, leb-false (at p) (at q) e))

pub up_by : (p q : Place) (t : Bool) → p.bit < 8 → t ≡ leb (at p) (at q) → t ≡ up_to p q
unfolding up_to
up_by p q t b h = h ∙ rw (lt-ltb p.bit 8 b)
