-- The words of the calendars' names while they are noted, and the whole table. Assumes nothing.
use Rattle.std.specs.Prelude.{if◌then◌else◌}
use Prim.Native.Nat.{ℕ, suc, ◌+◌, ◌-◌, ◌^◌, ◌≤◌, ◌<◌, max}
use native.Mathlib.Omega.{arith}
use mathlib.Core.Path.{◌≡◌, refl, sym, ap, ◌∙◌}
use mathlib.Core.Bool.{Bool, true, false}
use mathlib.Core.List.{List, ◌∷◌, []}
use Rattle.std.specs.Prelude.{Option, Some, None}
use lib.Dec.{eqb, ltb}
use lib.ListN.{length, get_or, set}
use lib.Seq.{get_or-set_same, get_or-set_other}
use borrow.Author.Tests.{ltb-true, ltb-false, eqb-true, eqb-false, ne_eqb, lt-ltb, le-ltb, lt-leb, le-leb}
use Rattle.definition.specs.Ascii.{bytes}
use Rattle.definition.specs.Base.{◌>>=◌, ◌or◌, ◌or_else◌, first, find, keep, numbered, same}
use Rattle.definition.specs.Calendar.{calendar_elements, elapsed_name}
use Rattle.definition.specs.Field.{text_in}
use Rattle.definition.specs.Format.{times}
use Rattle.definition.specs.Refusal.{most_elements}
use Rattle.definition.specs.Text.{Text, trim}
use Rattle.definition.specs.Tree.{Element, child, non_empty, text_of}
use Rattle.laws.specs.Options.{never}
use Rattle.index.specs.declared.Table.{Table}
use Rattle.index.specs.Hash.{hash_of}
use Rattle.index.specs.Chains.{place_at, place_of, end_of, table_of}
use Rattle.index.specs.Law.{Fits}
use Rattle.index.proofs.Law.{indexed_same}
use Rattle.index.specs.Frame.{SameIn, indexed_kept}
use Rattle.index.specs.Steps.{table_short}
use Rattle.bits.specs.declared.Place.{Place}
use Rattle.model.specs.Answers.{read_at}
use Rattle.model.specs.Parts.{raw, record_of}
use Rattle.model.specs.Passes.{Passes, pass_no, pass_more}
use Rattle.model.specs.declared.records.Kind.TheVariants as kind
use Rattle.pack.specs.Value.{starred_by}
use Rattle.rows.specs.Rows.{in_order, has_uid, main_in, with_uid_in, calendar_meaning}
use Rattle.rows.specs.Tables.{uid_of, sought_in}
use Rattle.tree.specs.Place.{element_at, meaning}
use Rattle.tree.specs.declared.element.Element.{Element as Standing}
use Rattle.names.specs.declared.named.Main.{Main}
use Rattle.names.specs.Texts.{text_at}
use Rattle.names.specs.Seen.{text_here, raw_length}
use Rattle.names.specs.Turned.{order_length}
use Rattle.names.specs.Context.{main_row, section_row, wanted_name, stars_by, stars_in, context_at}
use Rattle.names.specs.ByUid.{main_there, main_absent}
use Rattle.names.specs.Named.{name_word, name_at, Calendars, MainOf, main_text, nth_in, word_by, NotesName, NamesNoted}
use Rattle.names.specs.Uids.{names_end, how_many, made_in, of_row, Stays, Uids, MakesUids, row_found, calendar_by, Ripe, Stand, Chained}
use Rattle.names.proofs.Placing.{stays_refl, stays_then, stays_wider, stays_set}

-- ---- the word of a name

module _ (m : Main) (text : Text) (stars : ℕ) {b : Bool} (j : b ≡ same (starred_by text stars) (main_text m)) where
  pub word_main : b ≡ true → 0 ≡ name_word (main_text m) text stars
  unfolding name_word
  word_main h = rw (← j, h)

  pub word_other : b ≡ false → stars + 1 ≡ name_word (main_text m) text stars
  unfolding name_word
  word_other h = rw (← j, h) (omega arith)

-- a wanted name is no empty text, so that 32 bits hold the word
wanted_some : (e : Element) → 0 < length (wanted_name e)
unfolding text_of
wanted_some e = go (child e (bytes "Name"))
  where
    text : (s : Text) → 0 < length (non_empty s or bytes "Calendar")
    text [] = omega arith
    text (b ∷ s) = omega arith

    go : (o : Option Element) → 0 < length ((o >>= λ c. non_empty (trim c.text)) or bytes "Calendar")
    go None = omega arith
    go (Some c) = text (trim c.text)

pub stars_small : (d : List ℕ) (p : Place) (e : Element) {stars : ℕ} → stars ≡ stars_by ((read_at raw d p).0 or []) e → stars + 1 < 2 ^ 32
stars_small d p e h = omega (arith, raw_length d p, wanted_some e)

-- ---- the main calendar

pub main_none : (root : Element) → main_in root ≡ None → how_many root ≡ 0
unfolding main_in first numbered
main_none root e = go (text_in root "CalendarUID" >>= with_uid_in root) (in_order root) e
  where
    go : (o : Option (ℕ × Element)) (l : List Element) → (o or_else first (numbered 0 l)) ≡ None → length l ≡ 0
    go None [] e = refl
    go None (x ∷ l) e = never (sym e)
    go (Some y) l e = never (sym e)

pub main_some : (root : Element) {x : ℕ × Element} → main_in root ≡ Some x → 0 < how_many root
unfolding main_in first numbered keep
main_some root {x} e = go (text_in root "CalendarUID") (in_order root) e
  where
    go : (o : Option Text) (l : List Element) → ((o >>= λ u. find (λ (y : ℕ × Element). has_uid u y.1) (numbered 0 l)) or_else first (numbered 0 l)) ≡ Some x → 0 < length l
    go None [] e = never e
    go (Some u) [] e = never e
    go None (y ∷ l) e = omega arith
    go (Some u) (y ∷ l) e = omega arith

module _ {d : List ℕ} {c : Place} {root : Element} {m : Main} (h : MainOf d c root m) where
  main_name : main_text m ≡ (context_at d c root).main.name
  main_name =
      ap (λ (n : Text). starred_by n m.stars) h.name ∙ ap (starred_by (wanted_name h.calendar)) h.stars ∙ sym (main_there d c root (m.row, h.calendar) h.there)

  main_is : m.row ≡ main_row root
  main_is = sym (ap (λ (o : Option (ℕ × Element)). (o >>= λ x. Some x.0) or 0) h.there)

-- ---- the records one after another

-- how many records stand before the next one of a calendar that is not the main one
abbrev next_row : ℕ → ℕ → ℕ
next_row main row = if ltb main row then row else suc row

section_is : (main row : ℕ) → (row ≡ main → ⊥) → next_row main row ≡ section_row main row
section_is main row n = rw (ne_eqb row main n) (go (ltb row main) refl)
  where
    go : (b : Bool) → ltb row main ≡ b → next_row main row ≡ if b then suc row else row
    go true e = rw (le-ltb main row (omega (arith, ltb-true row main e)))
    go false e = rw (lt-ltb main row (omega (arith, ltb-false row main e, n)))

next_row_lem : (main row : ℕ) (b : Bool) → eqb row main ≡ b → (if b then next_row main row else next_row main row + 1) ≡ next_row main (row + 1)
next_row_lem main row true e =
    let z : row ≡ main = eqb-true row main e in
    rw (le-ltb main row (omega arith), lt-ltb main (row + 1) (omega arith)) (omega arith)
next_row_lem main row false e = go (ltb main row) refl
  where
    go : (b : Bool) → ltb main row ≡ b → (if b then row else suc row) + 1 ≡ next_row main (row + 1)
    go true k = rw (lt-ltb main (row + 1) (omega (arith, ltb-true main row k)))
    go false k = rw (le-ltb main (row + 1) (omega (arith, ltb-false main row k, eqb-false row main e))) (omega arith)

-- one row
module _ (d : List ℕ) (c q : Place) (s : Text) (t : Table) (row : ℕ) (m : Main) (w : List ℕ) (few : row < t.rows) where
  pub note_word : {at : ℕ} → at ≡ place_of w t (t.rows - 1 - row) → {p : Place} → p ≡ (if eqb row m.row then c else q) → {text : Text} → text ≡ wanted_name (element_at s at) → {stars : ℕ}
      → stars ≡ stars_by ((read_at raw d p).0 or []) (element_at s at) → {word : ℕ} → word ≡ name_word (main_text m) text stars → {w' : List ℕ} → w' ≡ set w (name_at t (t.rows - 1 - row)) word
      → w' ≡ set w (name_at t (t.rows - suc row)) (word_by m ((read_at raw d (if eqb row m.row then c else q)).0 or []) (nth_in s t w row))
  note_word {at} i {p} j {text} k {stars} l {word} n o =
      let z : t.rows - 1 - row ≡ t.rows - suc row = omega arith in
      let a : element_at s at ≡ nth_in s t w row = ap (element_at s) i ∙ ap (λ (r : ℕ). element_at s (place_of w t r)) z in
      let b : stars_by ((read_at raw d p).0 or []) (element_at s at) ≡ stars_by ((read_at raw d (if eqb row m.row then c else q)).0 or []) (nth_in s t w row) =
      ap (λ (p : Place). stars_by ((read_at raw d p).0 or []) (element_at s at)) j ∙ ap (stars_by ((read_at raw d (if eqb row m.row then c else q)).0 or [])) a in
      let y : word ≡ word_by m ((read_at raw d (if eqb row m.row then c else q)).0 or []) (nth_in s t w row) =
      n ∙ ap (λ (x : Text). name_word (main_text m) x stars) (k ∙ ap wanted_name a) ∙ ap (name_word (main_text m) (wanted_name (nth_in s t w row))) (l ∙ b) in
      o ∙ ap (λ (r : ℕ). set w (name_at t r) word) z ∙ ap (set w (name_at t (t.rows - suc row))) y

module _ {d : List ℕ} {c q : Place} {b : Bool} where
  pub next_other : {r : Place} → b ≡ false → Passes (record_of false kind.Calendars) d q r → (k : ℕ) → Passes (times k (record_of false kind.Calendars)) d c q
      → Passes (times (if b then k else k + 1) (record_of false kind.Calendars)) d c r
  next_other e i k h = rw e (pass_more (record_of false kind.Calendars) k h i)

pub record Naming (d : List ℕ) (c : Place) (s : Text) (t : Table) (m : Main) (n : ℕ) (q : Place) (w w' : List ℕ) : Type 0 where
  pub noted : NamesNoted d c s t m n w w'
  pub at : Passes (times (next_row m.row n) (record_of false kind.Calendars)) d c q

pub naming_begin : (d : List ℕ) (c : Place) (s : Text) (t : Table) (m : Main) (w : List ℕ) {q : Place} → Passes (record_of false kind.Calendars) d c q → Naming d c s t m 0 q w w
naming_begin d c s t m w h =
    record {
      noted = record { names = λ row k. absurd (omega arith); stays = stays_refl (end_of t) (names_end t) w };
      at = rw (le-ltb m.row 0 (omega arith)) (pass_more (record_of false kind.Calendars) 0 (pass_no (record_of false kind.Calendars) d c) h);
    }

module _ {d : List ℕ} {c : Place} {s : Text} {t : Table} {m : Main} {n : ℕ} {q : Place} {w w₁ : List ℕ} (x : Naming d c s t m n q w w₁) (room : names_end t ≤ length w) (few : n < t.rows) where
  -- the name of the row in its record
  name_at_lem : (b : Bool) → eqb n m.row ≡ b → ((read_at raw d (if b then c else q)).0 or []) ≡ text_at kind.Calendars d c (section_row m.row n)
  name_at_lem true e =
      text_here kind.Calendars 0 (pass_no (record_of false kind.Calendars) d c)
      ∙ ap (text_at kind.Calendars d c) (sym (ap (λ (b : Bool). if b then 0 else if ltb n m.row then suc n else n) e))
  name_at_lem false e =
      text_here kind.Calendars (next_row m.row n) x.at ∙ ap (text_at kind.Calendars d c) (section_is m.row n (eqb-false n m.row e))

  place_stays : (row : ℕ) → nth_in s t w₁ row ≡ nth_in s t w row
  place_stays row = ap (element_at s) (x.noted.stays.outside (place_at t (t.rows - suc row)) (λ a b. omega (arith, few)))

  pub naming_turn : {w₂ : List ℕ} {r : Place} → NotesName d c q s t n m w₁ w₂ r → Naming d c s t m (n + 1) r w w₂
  naming_turn {w₂} {r} h =
      record {
        noted = record {
          names = λ row k. named row (eqb row n) refl k;
          stays = stays_then x.noted.stays (rw h.word (stays_set w₁ (name_at t (t.rows - suc n)) _ (omega arith) (omega (arith, few))));
        };
        at = rw (← next_row_lem m.row n (eqb n m.row) refl) (h.next (next_row m.row n) x.at);
      }
    where
      named : (row : ℕ) (b : Bool) → eqb row n ≡ b → row < n + 1 → get_or w₂ (name_at t (t.rows - suc row)) 0 ≡ word_by m (text_at kind.Calendars d c (section_row m.row row)) (nth_in s t w row)
      named row true e k =
          let z : row ≡ n = eqb-true row n e in
          rw z
          (ap (λ (l : List ℕ). get_or l (name_at t (t.rows - suc n)) 0) h.word
          ∙ get_or-set_same w₁ (name_at t (t.rows - suc n)) _ 0 (omega (arith, x.noted.stays.long, few))
          ∙ ap (λ (name : Text). word_by m name (nth_in s t w₁ n)) (name_at_lem (eqb n m.row) refl)
          ∙ ap (word_by m (text_at kind.Calendars d c (section_row m.row n))) (place_stays n))
      named row false e k =
          let z : row ≡ n → ⊥ = eqb-false row n e in
          ap (λ (l : List ℕ). get_or l (name_at t (t.rows - suc row)) 0) h.word
          ∙ get_or-set_other w₁ (name_at t (t.rows - suc n)) (name_at t (t.rows - suc row)) _ 0 (λ q. z (omega (arith, few)))
          ∙ x.noted.names row (omega (arith, z))

-- ---- the whole table

-- words behind the table count for nothing in it
module _ {s : Text} {root : Element} {t : Table} {w : List ℕ} (uids : Uids s root t w) where
  uids_stay : {w' : List ℕ} → Stays (end_of t) (names_end t) w w' → Uids s root t w'
  uids_stay {w'} x =
      let in_table : SameIn t w w' = record { long = x.long; words = λ j h k. x.outside j (λ a b. omega arith) } in
      let place : (r : ℕ) → r < how_many root → place_of w t r ≡ place_of w' t r = λ r h. sym (in_table.words (place_at t r) (omega arith) (omega (arith, uids.indexed.few))) in
      record {
        rows = uids.rows;
        room = rw x.long uids.room;
        indexed = indexed_same (indexed_kept in_table uids.indexed) (λ r h. refl) place;
        stands = λ r h. ap (element_at s) (sym (place r h)) ∙ uids.stands r h;
      }

module _ {d : List ℕ} {c : Place} {s : Text} {root : Element} {t : Table} {w : List ℕ} (uids : Uids s root t w) where
  -- no calendar: the default one is no elapsed one
  pub filled_none : main_in root ≡ None → {w' : List ℕ} → w' ≡ set w (name_at t t.rows) 1 → Calendars d c s root t w' × Stays (end_of t) (names_end t) w w'
  unfolding name_word same
  filled_none e {w'} i =
      let x : Stays (end_of t) (names_end t) w w' = rw i (stays_set w (name_at t t.rows) 1 (omega arith) (omega arith)) in (
        record {
          uids = uids_stay uids x;
          names = λ r h. absurd (omega (arith, main_none root e));
          elapsed =
              ap (λ (l : List ℕ). get_or l (name_at t t.rows) 0) i
              ∙ get_or-set_same w (name_at t t.rows) 1 0 (omega (arith, uids.room))
              ∙ ap (λ (name : Text). name_word name elapsed_name 0) (sym (main_absent d c root e));
        },
        x,
      )

  module _ {w₁ w₂ : List ℕ} {m : Main} {word : ℕ} (main : MainOf d c root m)
      (n : NamesNoted d c s t m t.rows w w₁) (e : word ≡ name_word (main_text m) elapsed_name 0) (i : w₂ ≡ set w₁ (name_at t t.rows) word) where
    names_set : Stays (end_of t) (names_end t) w w₂
    names_set = stays_then n.stays (rw i (stays_set w₁ (name_at t t.rows) word (omega arith) (omega arith)))

    rows_are : t.rows ≡ how_many root
    rows_are = omega (arith, uids.rows, main_some root main.there)

    named : (r : ℕ) → r < how_many root → get_or w₂ (name_at t r) 0 ≡ name_word (context_at d c root).main.name (wanted_name (of_row root r)) (stars_in d c root (how_many root - suc r) (of_row root r))
    named r h =
        let z : r ≡ t.rows - suc (t.rows - suc r) = omega (arith, rows_are) in
        let x : t.rows - suc r ≡ how_many root - suc r = omega (arith, rows_are) in
        ap (λ (l : List ℕ). get_or l (name_at t r) 0) i
        ∙ get_or-set_other w₁ (name_at t t.rows) (name_at t r) word 0 (λ q. omega (arith, rows_are))
        ∙ ap (λ (k : ℕ). get_or w₁ (name_at t k) 0) z
        ∙ n.names (t.rows - suc r) (omega (arith, rows_are))
        ∙ ap (λ (k : ℕ). word_by m (text_at kind.Calendars d c (section_row m.row (t.rows - suc r))) (element_at s (place_of w t k))) (sym z)
        ∙ ap (word_by m (text_at kind.Calendars d c (section_row m.row (t.rows - suc r)))) (uids.stands r h)
        ∙ ap (λ (k : ℕ). word_by m (text_at kind.Calendars d c (section_row k (t.rows - suc r))) (of_row root r)) (main_is main)
        ∙ ap (λ (k : ℕ). word_by m (text_at kind.Calendars d c (section_row (main_row root) k)) (of_row root r)) x
        ∙ ap (λ (name : Text). name_word name (wanted_name (of_row root r)) (stars_in d c root (how_many root - suc r) (of_row root r))) (main_name main)

    pub filled : Calendars d c s root t w₂ × Stays (end_of t) (names_end t) w w₂
    filled = (
      record {
        uids = uids_stay uids names_set;
        names = named;
        elapsed =
            ap (λ (l : List ℕ). get_or l (name_at t t.rows) 0) i
            ∙ get_or-set_same w₁ (name_at t t.rows) word 0 (omega (arith, n.stays.long, uids.room))
            ∙ e
            ∙ ap (λ (name : Text). name_word name elapsed_name 0) (main_name main);
      },
      names_set,
    )

-- ---- the rows that stand in their places, and their chains

module _ {s : Text} {root : Element} {t : Table} {w w₁ : List ℕ} {count : ℕ} (ripe : Ripe s root t (length w)) (a : (count ≡ how_many root) × Stand s root t 0 w₁ × Stays t.at (names_end t) w w₁) where
  pub chain_fits : Fits t (length w₁) × (count ≤ t.rows)
  chain_fits = (record { some = ripe.some; room = omega (arith, ripe.room, a.2.long) }, omega (arith, a.0, ripe.rows))

  pub uids_made : {w₂ : List ℕ} → Chained s t count w₁ w₂ → Uids s root t w₂ × Stays t.at (names_end t) w w₂
  uids_made {w₂} b =
      let c : Chained s t (how_many root) w₁ w₂ = rw a.0 at b in
      let x = stays_then a.2 (stays_wider (omega arith) (omega arith) c.stays) in (
        record {
          rows = ripe.rows;
          room = rw x.long ripe.room;
          indexed = indexed_same c.indexed (λ r h. ap (λ (e : Element). hash_of (uid_of e)) (a.1.stands r (omega arith) h)) (λ r h. sym (c.indexed.places r h));
          stands = λ r h. ap (element_at s) (c.indexed.places r h) ∙ a.1.stands r (omega arith) h;
        },
        x,
      )

-- ---- room for it

module _ (s : Text) (root : Element) (len at : ℕ) where
  module _ (h : length s < 2 ^ 32) {n : ℕ} (k : n ≡ length (calendar_elements root)) where
    count : n ≡ how_many root
    count = k ∙ sym (order_length root)

    pub room_many : most_elements < n → None ≡ made_in s root len at
    room_many l = rw (lt-ltb (length s) (2 ^ 32) h, lt-leb (how_many root) most_elements (omega (arith, count)))

    module _ (l : n ≤ most_elements) {rows : ℕ} (j : rows ≡ max 1 n) where
      pub room_is : {r : Option Table} → r ≡ table_of (len - rows - 1) at rows → r ≡ made_in s root len at
      room_is e =
          let z : len - rows - 1 ≡ len - suc rows = omega arith in
          e
          ∙ ap (λ (k : ℕ). table_of k at rows) z
          ∙ ap (λ (k : ℕ). table_of (len - suc k) at k) (j ∙ ap (max 1) count)
          ∙ sym (rw (lt-ltb (length s) (2 ^ 32) h, le-leb (how_many root) most_elements (omega (arith, count))))

      pub room_short : len ≤ rows → None ≡ made_in s root len at
      room_short i = room_is (table_short (len - rows - 1) at rows (omega arith) (omega arith))

module _ {s : Text} {root : Element} {at : ℕ} {w : List ℕ} {m : Option Table} (h : m ≡ made_in s root (length w) at) where
  pub uids_ready : {t : Table} {w' : List ℕ} → m ≡ Some t → Uids s root t w' × Stays t.at (names_end t) w w' → {end : ℕ} → end ≡ names_end t → MakesUids s root at w w' (record { table = Some t; end = end })
  uids_ready e x i = record { made = sym e ∙ h; end = i; words = x }

-- ---- a calendar by it

module _ (s : Text) (root : Element) (w : List ℕ) {m : Option Table} (u : Text) where
  pub by_table : {t : Table} → m ≡ Some t → {o : Option ℕ} → o ≡ sought_in s w t u → {a : Option (ℕ × Element)} → a ≡ (o >>= row_found s w t) → a ≡ calendar_by s root w m u
  unfolding calendar_by
  by_table {t} e h i = rw e (i ∙ ap (λ (o : Option ℕ). o >>= row_found s w t) h)

  pub by_scan : m ≡ None → {a : Option (ℕ × Element)} → a ≡ with_uid_in root u → a ≡ calendar_by s root w m u
  unfolding calendar_by
  by_scan e h = rw e h

module _ (root : Element) {a : Option (ℕ × Standing)} (h : calendar_meaning a ≡ main_in root) where
  pub main_missing : a ≡ None → main_in root ≡ None
  unfolding calendar_meaning
  main_missing e = sym h ∙ rw e

  pub main_given : {d : List ℕ} {c : Place} {m : Main} {x : Standing} → a ≡ Some (m.row, x) → m.name.now ≡ wanted_name (meaning x) → m.stars ≡ stars_in d c root m.row (meaning x) → MainOf d c root m
  unfolding calendar_meaning
  main_given {x = x} e i j = record { calendar = meaning x; there = sym h ∙ rw e; name = i; stars = j }
