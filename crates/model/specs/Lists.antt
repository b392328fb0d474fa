-- Lists that stand at a place, walked item by item. Assumes nothing.
use Rattle.std.specs.Prelude.{◌≡◌, Bool, true, false, length, drop}
use Rattle.std.proofs.Math.Path.{refl, sym, ap}
use Rattle.std.proofs.Common.{◌∙◌, arith, drop-drop}
use mathlib.Core.List.{List, [], ◌∷◌}
use Rattle.std.specs.Prelude.{Option, Some, None}
use Prim.Native.Nat.{ℕ, zero, suc, ◌+◌, ◌-◌, ◌<◌}
use Rattle.std.proofs.Math.Nat.{sub-zero}
use Rattle.laws.specs.Options.{bind_assoc, bind_ext, never}
use Rattle.definition.specs.Base.{◌>>=◌, when}
use Rattle.definition.specs.Bits.{Bits}
use Rattle.definition.specs.Format.{Format, ◌⊗◌, times, get_all, rises, list_of, count}
use Rattle.bits.specs.Places.{past, room_short}
use Rattle.bits.specs.Reads.{rest, Reads, taken_at, take_cut, read_field, chain}
use Rattle.bits.specs.declared.Place.{Place}
use Rattle.bits.specs.declared.Field.{Field}
use Rattle.model.specs.Lax.{Lax, all_suc}
use Rattle.model.specs.Passes.{Passes}
use Rattle.model.specs.Rising.{Finds}
use Rattle.model.specs.Splits.{Stands, not_refused, stands_is, stands_first, stands_pass, read_stands, read_length, later, size, sized}

-- from a place at which something stands there are bits
pub stands_rest : {A : Type 0} {f : Format A} {s : List ℕ} {p : Place} {a : A} → Stands f s p a → (l : Bits) × (rest s p ≡ Some l)
stands_rest {A} {f} {s} {p} {a} h = from (rest s p) refl
  where
    from : (o : Option Bits) → rest s p ≡ o → (l : Bits) × (rest s p ≡ Some l)
    from None z = absurd (never (sym (ap (λ (o : Option Bits). o >>= f.get) z) ∙ h.gives))
    from (Some l) z = (l, z)

-- what a reader of items found is the item that stands there
pub found_is : {A : Type 0} {f : Format A} {K : A → ℕ → Type 0} {s : List ℕ} {p : Place} {a : A} {x : Field ℕ Place} → Stands f s p a → Finds f K s p x → K a x.value
found_is {f = f} {K} {s} {p} {a} {x} h i = by_value x.value refl
  where
    by_value : (v : ℕ) → x.value ≡ v → K a x.value
    by_value zero e = absurd (not_refused h (i.refuses e))
    by_value (suc n) e = let t = i.found (omega arith) in rw (sym (stands_is h t.reads)) t.key

-- ---- so many items, and a list of them behind its count

-- the first item, and the others behind it
record First {A : Type 0} (f : Format A) (s : List ℕ) (p : Place) (n : ℕ) (xs : List A) : Type 0 where
  item : A
  others : List A
  is : xs ≡ item ∷ others
  both : Stands (f ⊗ times n f) s p (item, others)

module _ {A : Type 0} (f : Format A) {s : List ℕ} {p : Place} {xs : List A} where
  first : (n : ℕ) → Stands (times (suc n) f) s p xs → First f s p n xs
  unfolding times ◌⊗◌
  first n h =
      by_value (rest s p >>= (f ⊗ times n f).get) refl
      (bind_assoc (rest s p) (f ⊗ times n f).get consed ∙ bind_ext (rest s p) _ (get_all f (suc n)) (λ l. each (f.get l) ∙ sym (all_suc f n l)) ∙ h.gives)
    where
      consed : (A × List A) × Bits → Option (List A × Bits)
      consed z = Some (z.0.0 ∷ z.0.1, z.1)

      inner : (a : A) (o : Option (List A × Bits)) → ◌≡◌ {A = Option (List A × Bits)} (o >>= (λ y. Some ((a, y.0), y.1)) >>= consed) (o >>= λ y. Some (a ∷ y.0, y.1))
      inner a None = refl
      inner a (Some y) = refl

      each : (o : Option (A × Bits)) → ◌≡◌ {A = Option (List A × Bits)} (o >>= (λ x. get_all f n x.1 >>= λ y. Some ((x.0, y.0), y.1)) >>= consed) (o >>= λ x. get_all f n x.1 >>= λ y. Some (x.0 ∷ y.0, y.1))
      each None = refl
      each (Some x) = inner x.0 (get_all f n x.1)

      by_value : (o : Option ((A × List A) × Bits)) → (rest s p >>= (f ⊗ times n f).get) ≡ o → (o >>= consed) ≡ Some (xs, h.left_over) → First f s p n xs
      by_value None z e = absurd (never e)
      by_value (Some x) z e =
          let w : ◌≡◌ {A = List A × Bits} (x.0.0 ∷ x.0.1, x.1) (xs, h.left_over) = cc in
          record { item = x.0.0; others = x.0.1; is = sym (ap (λ t. t.0) w); both = record { left_over = x.1; gives = z } }

  -- as many as were asked for
  pub stands_length : (n : ℕ) → Stands (times n f) s p xs → length xs ≡ n
  unfolding times
  stands_length n h =
      let (l, z) = stands_rest h in
      let g : get_all f n l ≡ Some (xs, h.left_over) = sym (ap (λ (o : Option Bits). o >>= get_all f n) z) ∙ h.gives in
      let w : Some (length xs) ≡ Some n = sym (ap (λ (o : Option (List A × Bits)). o >>= size) g) ∙ sized f n l ∙ ap (λ (o : Option (List A × Bits)). o >>= λ y. Some n) g in
      cc

  -- the items behind the count
  pub stands_list : (lt : A → A → Bool) {n : ℕ} {q : Place} → Stands (list_of lt f) s p xs → Reads count s p n q → Stands (times n f) s q xs
  unfolding list_of times
  stands_list lt {n} {q} h r =
      let k : ℕ × Bits → Option (List A × Bits) = λ x. get_all f x.0 x.1 >>= λ y. when (rises lt y.0) y in
      by_items (rest s q >>= get_all f n) refl (bind_assoc (rest s q) (get_all f n) risen ∙ sym (chain {f = count} k r) ∙ h.gives)
    where
      risen : List A × Bits → Option (List A × Bits)
      risen y = when (rises lt y.0) y

      by_test : (t : Bool) (y : List A × Bits) → (rest s q >>= get_all f n) ≡ Some y → when t y ≡ Some (xs, h.left_over) → Stands (times n f) s q xs
      by_test false y z e = absurd (never e)
      by_test true y z e = record { left_over = h.left_over; gives = z ∙ e }

      by_items : (o : Option (List A × Bits)) → (rest s q >>= get_all f n) ≡ o → (o >>= risen) ≡ Some (xs, h.left_over) → Stands (times n f) s q xs
      by_items None z e = absurd (never e)
      by_items (Some y) z e = by_test (rises lt y.0) y z e

-- ---- a walk over a list's items

-- n items are a list, and those from i on stand at q, if there are any
pub record Ahead {A : Type 0} (f : Format A) (s : List ℕ) (q : Place) (n i : ℕ) (xs : List A) : Type 0 where
  pub count : length xs ≡ n
  pub items : i < n → Stands (times (n - i) f) s q (drop i xs)

-- a count was taken, and the list stands behind it
pub ahead_list : {A : Type 0} {f : Format A} (lt : A → A → Bool) (s : List ℕ) (p : Place) {xs : List A} {x : Field ℕ Place} → x ≡ taken_at s p 32 → Stands (list_of lt f) s p xs
    → Ahead f s x.next x.value 0 xs
ahead_list {f = f} lt s p {x = x} e h = let t = stands_list f lt h (read_field s p 32 e) in record { count = stands_length f x.value t; items = λ l. rw sub-zero t }

-- past every end it is empty
pub ahead_none : {A : Type 0} (f : Format A) (s : List ℕ) {x : Field ℕ Place} → x ≡ taken_at s past 32 → Ahead f s x.next x.value 0 []
ahead_none f s {x} e =
    let z : x.value ≡ 0 = ap (λ (y : Field ℕ Place). y.value) (e ∙ take_cut s past 32 (room_short _ past 32 (λ b. absurd (omega arith)))) in
    record { count = sym z; items = λ l. absurd (omega arith) }

-- the item at i
pub record Item {A : Type 0} (f : Format A) (s : List ℕ) (q : Place) (i : ℕ) (xs : List A) : Type 0 where
  pub item : A
  pub is : drop i xs ≡ item ∷ drop (i + 1) xs
  pub stands : Stands f s q item

module _ {A : Type 0} {f : Format A} {s : List ℕ} {q : Place} {n i : ℕ} {xs : List A} (h : Ahead f s q n i xs) (lt : i < n) where
  parted : First f s q (n - (i + 1)) (drop i xs)
  parted = let z : n - i ≡ suc (n - (i + 1)) = omega arith in first f (n - (i + 1)) (rw z at (h.items lt))

  others : parted.others ≡ drop (i + 1) xs
  others = sym (sym (drop-drop 1 i xs) ∙ ap (drop 1) parted.is)

  pub ahead_item : Item f s q i xs
  ahead_item = let t = parted in record { item = t.item; is = rw (← others) t.is; stands = stands_first _ t.both }

  -- behind it
  pub ahead_more : {r : Place} → Passes f s q r → Ahead f s r n (i + 1) xs
  ahead_more {r} p = record { count = h.count; items = λ l. rw (← others) (stands_pass parted.both p) }

-- the list was read, and the first i were passed over
pub ahead_later : {A B : Type 0} {f : Format A} {g : Format B} {s : List ℕ} {p q end : Place} {l : Bits} {xs : List A} (n i : ℕ) → Lax g f → rest s end ≡ Some l → Reads (times n f) s p xs end
    → Passes (times i g) s p q → Ahead f s q n i xs
ahead_later {f = f} n i a e h k = record { count = read_length f n e h; items = λ lt. read_stands e (later i a e h (omega arith) k) }
