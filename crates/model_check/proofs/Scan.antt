-- A scan of records that ends at the first that stops it. Each loop of the crate is one: where it stands, what is left gives the same answer as
-- the whole. Assumes nothing.
use Rattle.std.specs.Prelude.{if◌then◌else◌}
use mathlib.Core.Path.{◌≡◌, refl, sym, ap, ◌∙◌}
use mathlib.Core.Bool.{Bool, true, false, ◌&&◌, ◌||◌, not}
use mathlib.Core.List.{List, [], ◌∷◌}
use Rattle.std.specs.Prelude.{Option, Some, None}
use Prim.Native.Nat.{ℕ, suc, ◌+◌, ◌-◌, ◌≤◌, ◌<◌}
use native.Mathlib.Nat.{sub-zero}
use native.Mathlib.Numerals.{add-one}
use native.Mathlib.Omega.{arith}
use lib.ListN.{length, drop, drop_of_length-le}
use lib.Seq.{drop-drop}
use Rattle.definition.specs.Base.{◌>>=◌, some?, every?}
use Rattle.definition.specs.Bits.{Bits}
use Rattle.definition.specs.Check.{distinct}
use Rattle.definition.specs.Format.{Format, whole, times, get_all}
use Rattle.bits.specs.Reads.{rest, Reads}
use Rattle.bits.specs.declared.Place.{Place}
use Rattle.laws.specs.Options.{bind_assoc, bind_ext, never}
use Rattle.model.specs.Lax.{all_suc}
use Rattle.model.specs.Passes.{Passes}
use Rattle.model.specs.Parts.{record_of}
use Rattle.model.specs.Splits.{Stands, Step, step, read_length}
use Rattle.model.specs.Sections.{byte_at, byte_rest}
use Rattle.model.specs.declared.records.Kind.{Kind}
use Rattle.model_check.specs.Kinds.{Item, format_of, lax_record, Run}

-- the answer is e, unless an item stops the scan; the test knows the item, its row and the items behind it
unfoldable pub scan : {A : Type 0} → (ℕ → A → List A → Bool) → Bool → ℕ → List A → Bool
scan stop e i [] = e
scan stop e i (x ∷ l) = if stop i x l then not e else scan stop e (suc i) l

pub some_scan : {A : Type 0} (p : A → Bool) (i : ℕ) (l : List A) → scan (λ i x l. p x) false i l ≡ some? p l
unfolding scan some?
some_scan p i [] = refl
some_scan p i (x ∷ l) = by_test (p x) (some_scan p (suc i) l)
  where
    by_test : (b : Bool) {c d : Bool} → c ≡ d → (if b then true else c) ≡ b || d
    by_test true e = refl
    by_test false e = e

pub every_scan : {A : Type 0} (p : A → Bool) (i : ℕ) (l : List A) → scan (λ i x l. not (p x)) true i l ≡ every? p l
unfolding scan every?
every_scan p i [] = refl
every_scan p i (x ∷ l) = by_test (p x) (every_scan p (suc i) l)
  where
    by_test : (b : Bool) {c d : Bool} → c ≡ d → (if not b then false else c) ≡ b && d
    by_test true e = e
    by_test false e = refl

pub distinct_scan : {A : Type 0} (eq : A → A → Bool) (i : ℕ) (l : List A) → scan (λ i x l. some? (eq x) l) true i l ≡ distinct eq l
unfolding scan distinct
distinct_scan eq i [] = refl
distinct_scan eq i (x ∷ l) = by_test (some? (eq x) l) (distinct_scan eq (suc i) l)
  where
    by_test : (b : Bool) {c d : Bool} → c ≡ d → (if b then false else c) ≡ not b && d
    by_test true e = refl
    by_test false e = e

module _ {A : Type 0} (stop : ℕ → A → List A → Bool) (e : Bool) (i : ℕ) {x : A} {l : List A} where
  scan_stop : stop i x l ≡ true → scan stop e i (x ∷ l) ≡ not e
  unfolding scan
  scan_stop h = rw h

  scan_on : stop i x l ≡ false → scan stop e i (x ∷ l) ≡ scan stop e (suc i) l
  unfolding scan
  scan_on h = rw h

scan_end : {A : Type 0} (stop : ℕ → A → List A → Bool) (e : Bool) (i : ℕ) → scan stop e i [] ≡ e
unfolding scan
scan_end stop e i = refl

-- ---- a scan of a run of records, at the record of row i

pub record Along (kind : Kind) (s : List ℕ) (n : ℕ) (xs : List (Item kind)) (end : ℕ) (stop : ℕ → Item kind → List (Item kind) → Bool) (e : Bool) (i : ℕ) (q : Place) : Type 0 where
  pub ends : end ≤ length s
  pub size : length xs ≡ n
  pub left : Reads (times (n - i) (whole (format_of kind))) s q (drop i xs) (byte_at end)
  pub same : scan stop e 0 xs ≡ scan stop e i (drop i xs)

-- the record at a place, and those behind it
pub record First (kind : Kind) (s : List ℕ) (q : Place) (i : ℕ) (xs : List (Item kind)) : Type 0 where
  pub item : Item kind
  pub is : drop i xs ≡ item ∷ drop (i + 1) xs
  pub stands : Stands (whole (format_of kind)) s q item

record Headed {A : Type 0} (f : Format A) (s : List ℕ) (p : Place) (xs : List A) : Type 0 where
  item : A
  others : List A
  is : xs ≡ item ∷ others
  stands : Stands f s p item

-- the first of the records that were read
first : {A : Type 0} {f : Format A} {s : List ℕ} {p r : Place} {xs : List A} {l : Bits} (n : ℕ) → rest s r ≡ Some l → Reads (times (suc n) f) s p xs r → Headed f s p xs
unfolding times
first {A} {f} {s} {p} {r} {xs} {l} n e h =
    by_item (rest s p >>= f.get) refl
    (bind_assoc (rest s p) f.get k ∙ bind_ext (rest s p) (λ m. f.get m >>= k) (get_all f (suc n)) (λ m. sym (all_suc f n m)) ∙ h.reads ∙ rw e)
  where
    onto : A → List A × Bits → Option (List A × Bits)
    onto a y = Some (a ∷ y.0, y.1)

    k : A × Bits → Option (List A × Bits)
    k x = get_all f n x.1 >>= onto x.0

    by_rest : (x : A × Bits) → (rest s p >>= f.get) ≡ Some x → (o : Option (List A × Bits)) → (o >>= onto x.0) ≡ Some (xs, l) → Headed f s p xs
    by_rest x z None y = absurd (never y)
    by_rest x z (Some t) y =
        let w : ◌≡◌ {A = List A × Bits} (x.0 ∷ t.0, t.1) (xs, l) = cc in
        record { item = x.0; others = t.0; is = ap (λ (u : List A × Bits). u.0) (sym w); stands = record { left_over = x.1; gives = z } }

    by_item : (o : Option (A × Bits)) → (rest s p >>= f.get) ≡ o → (o >>= k) ≡ Some (xs, l) → Headed f s p xs
    by_item None z y = absurd (never y)
    by_item (Some x) z y = by_rest x z (get_all f n x.1) y

next_items : {A : Type 0} {x : A} {l : List A} (xs : List A) (i : ℕ) → drop i xs ≡ x ∷ l → drop i xs ≡ x ∷ drop (i + 1) xs
next_items {A} {x} xs i e = e ∙ ap (λ (ys : List A). x ∷ ys) (sym (sym (drop-drop 1 i xs) ∙ ap (drop 1) e))

module _ {kind : Kind} {s : List ℕ} {n : ℕ} {xs : List (Item kind)} {end : ℕ} (stop : ℕ → Item kind → List (Item kind) → Bool) (e : Bool) where
  pub starts : {p : Place} → Run kind s p n xs end → Along kind s n xs end stop e 0 p
  starts r = record { ends = r.ends; size = read_length (whole (format_of kind)) n (byte_rest s end r.ends) r.reads; left = rw sub-zero r.reads; same = refl }

  module _ {i : ℕ} {q : Place} (a : Along kind s n xs end stop e i q) where
    -- the record at the place
    pub here : i < n → First kind s q i xs
    here l =
        let z : n - i ≡ suc (n - (i + 1)) = omega arith in
        let t = first (n - (i + 1)) (byte_rest s end a.ends) (rw z at a.left) in
        record { item = t.item; is = next_items xs i t.is; stands = t.stands }

    -- it, and the run of those behind it
    pub on : {r : Place} → i < n → Passes (record_of false kind) s q r → Step (whole (format_of kind)) s q r (byte_at end) n i xs
    on l p = step (lax_record kind) (byte_rest s end a.ends) a.left l p

    pub behind : {r : Place} {k : ℕ} → Step (whole (format_of kind)) s q r (byte_at end) n i xs → k ≡ n - (i + 1) → Run kind s r k (drop (i + 1) xs) end
    behind t z = record { reads = rw z t.on; ends = a.ends }

    -- it stops the scan
    pub stops : {x : Item kind} → drop i xs ≡ x ∷ drop (i + 1) xs → stop i x (drop (i + 1) xs) ≡ true → not e ≡ scan stop e 0 xs
    stops is h = sym (a.same ∙ ap (scan stop e i) is ∙ scan_stop stop e i h)

    -- it does not
    pub goes : {r : Place} (t : Step (whole (format_of kind)) s q r (byte_at end) n i xs) → stop i t.item (drop (i + 1) xs) ≡ false → Along kind s n xs end stop e (i + 1) r
    goes t h = record { ends = a.ends; size = a.size; left = t.on; same = a.same ∙ ap (scan stop e i) t.is ∙ scan_on stop e i h ∙ rw (← add-one i) }

    -- none did
    pub ended : n ≤ i → e ≡ scan stop e 0 xs
    ended h =
        let l : length xs ≤ i = omega (arith, a.size) in
        let z : drop i xs ≡ [] = drop_of_length-le xs l in
        sym (a.same ∙ ap (scan stop e i) z ∙ scan_end stop e i)
