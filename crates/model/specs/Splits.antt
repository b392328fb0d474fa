-- A whole that was read, taken apart: its parts are read at the places between them. So records are walked one by one, and fields are found
-- in records. `rest s r ≡ some l` says that the whole is there. Assumes nothing.
use Rattle.std.specs.Prelude.{◌≡◌, refl, length, drop}
use Rattle.std.proofs.Math.Path.{sym, ap}
use Rattle.std.proofs.Common.{◌∙◌, arith, drop-drop, drop_at}
use mathlib.Core.List.{List, ◌∷◌, ◌++◌}
use Rattle.std.specs.Prelude.{Option, Some, None}
use Prim.Native.Nat.{ℕ, zero, suc, ◌+◌, ◌-◌, ◌≤◌, ◌<◌}
use Rattle.laws.specs.Options.{bind_assoc, bind_ext, never}
use Rattle.definition.specs.Base.{◌>>=◌, ◌or◌}
use Rattle.definition.specs.Bits.{Bits}
use Rattle.definition.specs.Format.{Format, via, ◌⊗◌, whole, get_pad, times, get_all}
use Rattle.bits.specs.Reads.{rest, rest_past, Reads, Refuses, chain, onto, read_no, read_on, refuse_times}
use Rattle.bits.specs.declared.Place.{Place}
use Rattle.model.specs.Answers.{seen, read_at, or_at}
use Rattle.model.specs.Lax.{Regroups, Lax, lax_same, lax_times, all_zero, all_suc}
use Rattle.model.specs.Passes.{Passes, stood, pass_read, pass_refused, pass_cut, same_rest, Told, refusing, reading, told, lax_pass}

-- two parts of a whole c
pub record Split {A B C : Type 0} (f : Format A) (g : Format B) (pair : A → B → C) (s : List ℕ) (p q r : Place) (c : C) : Type 0 where
  pub first : A
  pub second : B
  pub is : c ≡ pair first second
  pub before : Reads f s p first q
  pub behind : Reads g s q second r

abbrev joined : {A B C : Type 0} → (A → B → C) → A → B × Bits → Option (C × Bits)
joined pair a y = Some (pair a y.0, y.1)

module _ {A B C : Type 0} {f : Format A} (g : Format B) (pair : A → B → C) {s : List ℕ} {p q r : Place} {c : C} {l : Bits} (e : rest s r ≡ Some l) where
  split : (rest s p >>= λ m. f.get m >>= λ x. g.get x.1 >>= joined pair x.0) ≡ (rest s r >>= λ m. Some (c, m)) → Told f s p q → Split f g pair s p q r c
  split h (refusing n z) =
      let k : A × Bits → Option (C × Bits) = λ x. g.get x.1 >>= joined pair x.0 in
      absurd (never (sym (ap (λ (o : Option (A × Bits)). o >>= k) n.gives) ∙ bind_assoc (rest s p) f.get k ∙ h ∙ ends))
    where
      ends : ◌≡◌ {A = Option (C × Bits)} (rest s r >>= λ m. Some (c, m)) (Some (c, l))
      ends = rw e
  split h (reading a m z t) = by_second (g.get m) refl (sym (chain {f = f} (λ x. g.get x.1 >>= joined pair x.0) t ∙ rw z) ∙ h ∙ rw e)
    where
      by_second : (o : Option (B × Bits)) → g.get m ≡ o → ◌≡◌ {A = Option (C × Bits)} (o >>= joined pair a) (Some (c, l)) → Split f g pair s p q r c
      by_second None y x = absurd (never x)
      by_second (Some b) y x =
          let w : ◌≡◌ {A = C × Bits} (pair a b.0, b.1) (c, l) = cc in
          let u : b.1 ≡ l = ap (λ z. z.1) w in
          record { first = a; second = b.0; is = sym (ap (λ z. z.0) w); before = t; behind = record { reads = rw z (y ∙ rw (e, ← u)) } }

module _ {s : List ℕ} {p q r : Place} {l : Bits} where
  pub split-⊗ : {A B : Type 0} {f : Format A} {g : Format B} {c : A × B} → rest s r ≡ Some l → Reads (f ⊗ g) s p c r → Passes f s p q → Reads f s p c.0 q × Reads g s q c.1 r
  unfolding ◌⊗◌
  split-⊗ {f = f} {g = g} {c = c} e h i =
      let t = split g (λ a b. (a, b)) e h.reads (told i) in
      (rw t.is t.before, rw t.is t.behind)

  -- the first record and the others
  pub split_times : {A : Type 0} {f : Format A} {xs : List A} (n : ℕ) → rest s r ≡ Some l → Reads (times (suc n) f) s p xs r → Passes f s p q → Split f (times n f) ◌∷◌ s p q r xs
  unfolding times
  split_times {f = f} n e h i = split (times n f) ◌∷◌ e (bind_ext (rest s p) _ (get_all f (suc n)) (λ m. sym (all_suc f n m)) ∙ h.reads) (told i)

-- as many as were asked for
abbrev pub size : {A : Type 0} → List A × Bits → Option ℕ
size y = Some (length y.0)

pub sized : {A : Type 0} (f : Format A) (n : ℕ) (m : Bits) → (get_all f n m >>= size) ≡ (get_all f n m >>= λ y. Some n)
sized f zero m = rw all_zero
sized {A} f (suc n) m = rw all_suc (first (sized f n) (f.get m))
  where
    onto : A → List A × Bits → Option (List A × Bits)
    onto a y = Some (a ∷ y.0, y.1)

    second : (a : A) (o : Option (List A × Bits)) → (o >>= size) ≡ (o >>= λ y. Some n) → (o >>= onto a >>= size) ≡ (o >>= onto a >>= λ y. Some (suc n))
    second a None ih = refl
    second a (Some y) ih = let w : Some (length y.0) ≡ Some n = ih in cc

    first : ((m : Bits) → (get_all f n m >>= size) ≡ (get_all f n m >>= λ y. Some n)) → (o : Option (A × Bits))
        → (o >>= (λ x. get_all f n x.1 >>= onto x.0) >>= size) ≡ (o >>= (λ x. get_all f n x.1 >>= onto x.0) >>= λ y. Some (suc n))
    first ih None = refl
    first ih (Some x) = second x.0 (get_all f n x.1) (ih x.1)

pub read_length : {A : Type 0} (f : Format A) {s : List ℕ} {p q : Place} {xs : List A} {l : Bits} (n : ℕ) → rest s q ≡ Some l → Reads (times n f) s p xs q → length xs ≡ n
unfolding times
read_length {A} f {s} {p} {q} {xs} {l} n e h =
    let k : List A × Bits → Option ℕ = λ y. Some n in
    let z : ◌≡◌ {A = Option (List A × Bits)} (rest s p >>= get_all f n) (Some (xs, l)) = h.reads ∙ rw e in
    let w : Some (length xs) ≡ Some n =
    sym (ap (λ (o : Option (List A × Bits)). o >>= size) z) ∙ bind_assoc (rest s p) (get_all f n) size ∙ bind_ext (rest s p) _ (λ m. get_all f n m >>= k) (sized f n)
    ∙ sym (bind_assoc (rest s p) (get_all f n) k) ∙ ap (λ (o : Option (List A × Bits)). o >>= k) z in
    cc

-- ---- a value stands at a place, whatever is behind it

pub record Stands {A : Type 0} (f : Format A) (s : List ℕ) (p : Place) (a : A) : Type 0 where
  pub left_over : Bits
  pub gives : (rest s p >>= f.get) ≡ Some (a, left_over)

module _ {A : Type 0} {f : Format A} {s : List ℕ} {p : Place} {a : A} where
  pub read_stands : {q : Place} {l : Bits} → rest s q ≡ Some l → Reads f s p a q → Stands f s p a
  read_stands {l = l} e h = record { left_over = l; gives = h.reads ∙ rw e }

  module _ (h : Stands f s p a) where
    pub not_refused : Refuses f s p → ⊥
    not_refused n = never (sym n.gives ∙ h.gives)

    -- the only value there
    pub stands_is : {b : A} {q : Place} → Reads f s p b q → b ≡ a
    stands_is {b} {q} r = by_place (rest s q) (sym h.gives ∙ r.reads)
      where
        by_place : (o : Option Bits) → ◌≡◌ {A = Option (A × Bits)} (Some (a, h.left_over)) (o >>= λ l. Some (b, l)) → b ≡ a
        by_place None z = absurd (never (sym z))
        by_place (Some l) z = let w : ◌≡◌ {A = A × Bits} (a, h.left_over) (b, l) = cc in sym (ap (λ x. x.0) w)

    -- and what a reader answers
    pub stands_read : (read_at f s p).0 ≡ Some a
    unfolding read_at
    stands_read = ap (λ (o : Option (A × Bits)). (seen s o).0) h.gives

    pub stands_or : (d : A) → (or_at d f s p).0 ≡ a
    unfolding or_at
    stands_or d = ap (λ (o : Option A). o or d) stands_read

    pub stands_reads : {q : Place} → Passes f s p q → Reads f s p a q
    stands_reads {q} i = by_told (told i)
      where
        by_told : Told f s p q → Reads f s p a q
        by_told (refusing n z) = absurd (not_refused n)
        by_told (reading b l z r) = rw (sym (stands_is r)) r

-- the parts of a pair
record Parted {A B : Type 0} (f : Format A) (g : Format B) (s : List ℕ) (p : Place) (c : A × B) : Type 0 where
  middle : Bits
  end : Bits
  first : (rest s p >>= f.get) ≡ Some (c.0, middle)
  second : g.get middle ≡ Some (c.1, end)

parted : {A B : Type 0} {f : Format A} {g : Format B} {s : List ℕ} {p : Place} {c : A × B} → Stands (f ⊗ g) s p c → Parted f g s p c
unfolding ◌⊗◌
parted {A} {B} {f} {g} {s} {p} {c} h = by_first (rest s p >>= f.get) refl (bind_assoc (rest s p) f.get k ∙ h.gives)
  where
    k : A × Bits → Option ((A × B) × Bits)
    k x = g.get x.1 >>= λ y. Some ((x.0, y.0), y.1)

    by_second : (x : A × Bits) → (rest s p >>= f.get) ≡ Some x → (o : Option (B × Bits)) → g.get x.1 ≡ o
        → ◌≡◌ {A = Option ((A × B) × Bits)} (o >>= λ y. Some ((x.0, y.0), y.1)) (Some (c, h.left_over)) → Parted f g s p c
    by_second x z None e u = absurd (never u)
    by_second x z (Some y) e u =
        let w : ◌≡◌ {A = (A × B) × Bits} ((x.0, y.0), y.1) (c, h.left_over) = cc in
        let v : ◌≡◌ {A = A × B} (x.0, y.0) c = ap (λ t. t.0) w in
        record { middle = x.1; end = y.1; first = rw (← v) z; second = rw (← v) e }

    by_first : (o : Option (A × Bits)) → (rest s p >>= f.get) ≡ o → (o >>= k) ≡ Some (c, h.left_over) → Parted f g s p c
    by_first None z e = absurd (never e)
    by_first (Some x) z e = by_second x z (g.get x.1) refl e

module _ {A B : Type 0} {f : Format A} (g : Format B) {s : List ℕ} {p : Place} {c : A × B} (h : Stands (f ⊗ g) s p c) where
  pub stands_first : Stands f s p c.0
  stands_first = let t = parted h in record { left_over = t.middle; gives = t.first }

module _ {A B : Type 0} {f : Format A} {g : Format B} {s : List ℕ} {p : Place} {c : A × B} (h : Stands (f ⊗ g) s p c) where
  -- behind the first: whoever passes over it may take more
  pub stands_next : {C : Type 0} {k : Format C} {q : Place} → Lax k f → Passes k s p q → Stands g s q c.1
  stands_next {k = k} {q} a i =
      let t = parted h in
      let u : Passes f s p q = lax_pass a (not_refused (stands_first g h)) i in
      let v : rest s q ≡ Some t.middle = sym u.passes ∙ sym (bind_assoc (rest s p) f.get (λ x. Some x.1)) ∙ ap (λ (o : Option (A × Bits)). o >>= λ x. Some x.1) t.first in
      record { left_over = t.end; gives = ap (λ (o : Option Bits). o >>= g.get) v ∙ t.second }

  pub stands_pass : {q : Place} → Passes f s p q → Stands g s q c.1
  stands_pass i = stands_next (lax_same f) i

-- the fields in other groups
pub stands_regroup : {A B : Type 0} {f : Format A} {g : Format B} {to : A → B} {s : List ℕ} {p : Place} {a : A} → Regroups f g to → Stands f s p a → Stands g s p (to a)
stands_regroup {A} {B} {f} {g} {to} {s} {p} r h =
    let k : A × Bits → Option (B × Bits) = λ x. Some (to x.0, x.1) in
    record {
      left_over = h.left_over;
      gives = bind_ext (rest s p) g.get (λ l. f.get l >>= k) r.same ∙ sym (bind_assoc (rest s p) f.get k) ∙ ap (λ (o : Option (A × Bits)). o >>= k) h.gives;
    }

-- a value under a name
pub record Under {A B : Type 0} (to : A → B) (f : Format A) (s : List ℕ) (p : Place) (b : B) : Type 0 where
  pub value : A
  pub is : b ≡ to value
  pub stands : Stands f s p value

pub stands_named : {A B : Type 0} (to : A → B) (from : B → A) {f : Format A} {s : List ℕ} {p : Place} {b : B} → Stands (via (λ a. Some (to a)) from f) s p b → Under to f s p b
unfolding via
stands_named {A} {B} to from {f} {s} {p} {b} h = by_value (rest s p >>= f.get) refl (bind_assoc (rest s p) f.get k ∙ h.gives)
  where
    k : A × Bits → Option (B × Bits)
    k x = Some (to x.0) >>= λ b. Some (b, x.1)

    by_value : (o : Option (A × Bits)) → (rest s p >>= f.get) ≡ o → (o >>= k) ≡ Some (b, h.left_over) → Under to f s p b
    by_value None z e = absurd (never e)
    by_value (Some x) z e =
        let w : ◌≡◌ {A = B × Bits} (to x.0, x.1) (b, h.left_over) = cc in
        record { value = x.0; is = sym (ap (λ t. t.0) w); stands = record { left_over = x.1; gives = z } }

pub stands_whole : {A : Type 0} {f : Format A} {s : List ℕ} {p : Place} {a : A} → Stands (whole f) s p a → Stands f s p a
unfolding whole
stands_whole {A} {f} {s} {p} {a} h = by_value (rest s p >>= f.get) refl (bind_assoc (rest s p) f.get k ∙ h.gives)
  where
    k : A × Bits → Option (A × Bits)
    k x = get_pad x.1 >>= λ r. Some (x.0, r)

    by_pad : (x : A × Bits) → (rest s p >>= f.get) ≡ Some x → (o : Option Bits) → ◌≡◌ {A = Option (A × Bits)} (o >>= λ r. Some (x.0, r)) (Some (a, h.left_over)) → Stands f s p a
    by_pad x z None e = absurd (never e)
    by_pad x z (Some r) e =
        let w : ◌≡◌ {A = A × Bits} (x.0, r) (a, h.left_over) = cc in
        let v : x.0 ≡ a = ap (λ t. t.0) w in
        record { left_over = x.1; gives = rw (← v) z }

    by_value : (o : Option (A × Bits)) → (rest s p >>= f.get) ≡ o → (o >>= k) ≡ Some (a, h.left_over) → Stands f s p a
    by_value None z e = absurd (never e)
    by_value (Some x) z e = by_pad x z (get_pad x.1) e

-- ---- records one after another

-- the item at i, the place behind it and the items from i + 1 on
pub record Step {A : Type 0} (f : Format A) (s : List ℕ) (q r end : Place) (n i : ℕ) (xs : List A) : Type 0 where
  pub item : A
  pub is : drop i xs ≡ item ∷ drop (i + 1) xs
  pub stands : Stands f s q item
  pub reads : Reads f s q item r
  pub on : Reads (times (n - (i + 1)) f) s r (drop (i + 1) xs) end

module _ {A B : Type 0} {f : Format A} {g : Format B} {s : List ℕ} {end : Place} {l : Bits} {xs : List A} where
  -- one item of those that are left
  pub step : {q r : Place} {n i : ℕ} → Lax g f → rest s end ≡ Some l → Reads (times (n - i) f) s q (drop i xs) end → i < n → Passes g s q r → Step f s q r end n i xs
  step {q} {r} {n} {i} a e h lt k =
      let z : n - i ≡ suc (n - (i + 1)) = omega arith in
      let h' : Reads (times (suc (n - (i + 1))) f) s q (drop i xs) end = rw z at h in
      let there : Refuses f s q → ⊥ = λ x. not_refused (read_stands e h') (refuse_times f 0 (suc (n - (i + 1))) (read_no f s q) x (omega arith)) in
      let t = split_times (n - (i + 1)) e h' (lax_pass a there k) in
      let u : drop (i + 1) xs ≡ t.second = sym (drop-drop 1 i xs) ∙ ap (drop 1) t.is in
      record { item = t.first; is = t.is ∙ ap (λ (ys : List A). t.first ∷ ys) (sym u); stands = read_stands (stood e (pass_read t.behind)).1 t.before; reads = t.before; on = rw u t.behind }

  -- those behind the first i
  pub later : {p q : Place} {n : ℕ} (i : ℕ) → Lax g f → rest s end ≡ Some l → Reads (times n f) s p xs end → i ≤ n → Passes (times i g) s p q → Reads (times (n - i) f) s q (drop i xs) end
  unfolding times
  later {p} {q} {n} i a e h le k = by_told (told (lax_pass (lax_times i a) there k))
    where
      m : ℕ
      m = n - i

      whole_list : Reads (times (i + m) f) s p xs end
      whole_list = let z : i + m ≡ n = omega arith in rw z h

      there : Refuses (times i f) s p → ⊥
      there x = never (sym (rest_past s) ∙ same_rest (pass_cut f i (i + m) (omega arith) (pass_refused x (rest_past s)) (rest_past s)) (pass_read whole_list) ∙ e)

      by_rest : (front : List A) → length front ≡ i → (b : Bits) → rest s q ≡ Some b → (o : Option (List A × Bits)) → get_all f m b ≡ o
          → (o >>= onto front) ≡ Some (xs, l) → Reads (times m f) s q (drop i xs) end
      by_rest front u b z None y w = absurd (never w)
      by_rest front u b z (Some x) y w =
          let v : ◌≡◌ {A = List A × Bits} (front ++ x.0, x.1) (xs, l) = cc in
          let d : drop i xs ≡ x.0 = ap (λ (t : List A × Bits). drop i t.0) (sym v) ∙ drop_at front x.0 i u in
          let t : x.1 ≡ l = ap (λ (t : List A × Bits). t.1) v in
          record { reads = ap (λ (o : Option Bits). o >>= get_all f m) z ∙ y ∙ rw (e, d, ← t) }

      by_told : Told (times i f) s p q → Reads (times m f) s q (drop i xs) end
      by_told (refusing x z) = absurd (there x)
      by_told (reading front b z r) =
          by_rest front (read_length f i z r) b z (get_all f m b) refl
          (sym (read_on f i m r ∙ ap (λ (o : Option Bits). o >>= λ r. get_all f m r >>= onto front) z) ∙ whole_list.reads ∙ rw e)
