-- Reading: the bits from a place on, what a field's reader answers, and how readers of parts make the reader of a whole, format by format.
-- Assumes nothing.
use Rattle.std.specs.Prelude.{if◌then◌else◌, ◌≡◌, ◌&&◌, ℤ, take, replicate, leb, ltb, eqb}
use Rattle.std.proofs.Math.Path.{refl, sym, ap}
use Rattle.std.proofs.Common.{◌∙◌, arith, zero-add, suc-add, zero-mul, length-drop, drop-drop, pow_pos}
use Rattle.std.proofs.Math.Bool.{Bool, true, false}
use mathlib.Core.List.{List, [], ◌∷◌, ◌++◌}
use Rattle.std.specs.Prelude.{Option, Some, None}
use Prim.Native.Nat.{ℕ, zero, suc, ◌+◌, ◌-◌, ◌*◌, ◌%◌, ◌^◌, ◌≤◌, ◌<◌}
use Rattle.std.proofs.Math.ListN.{length, drop}
use Rattle.std.proofs.Math.Seq.{length-take-le}
use Rattle.std.proofs.Math.Dec.{eqb-suc-zero}
use borrow.Author.Tests.{le-leb, lt-leb, ne_eqb, ltb-false}
use Rattle.definition.specs.Base.{◌>>=◌, when, same, within}
use Rattle.definition.specs.Bits.{Bits, dec, bits_of, signed}
use Rattle.definition.specs.Date.{Date, from_days}
use Rattle.definition.specs.Time.{most_time}
use Rattle.definition.specs.Text.{is_utf8}
use Rattle.definition.specs.Format.{Format, field, via, ◌⊗◌, depending, get_given, optional, whole, get_pad, times, get_all, rises, list_of, count, flag, code, time, Period, period, date, text}
use Rattle.laws.specs.Options.{bind_assoc, bind_ext}
use Rattle.laws.specs.Bits.{length_bits, dec_part}
use Rattle.bits.specs.Places.{at, place, past, room, inside, Fits, room_fits, fits_room, room_none, room_more, room_short, at_place, place_at_lem, next_fits}
use Rattle.bits.specs.declared.Place.{Place}
use Rattle.bits.specs.declared.Field.{Field}
use Rattle.bits.specs.declared.Span.{Span}

-- the bits from a place on, if it is inside
unfoldable pub rest : List ℕ → Place → Option Bits
rest s p = when (inside (length s) p) (drop (at p) (bits_of s))

-- the place from which on these bits are left
abbrev pub spot : List ℕ → Bits → Place
spot s l = place (8 * length s - length l)

-- a value and the next place; where nothing can be read, 0 and a place past every end
abbrev pub field_of : List ℕ → Option (ℕ × Bits) → Field ℕ Place
field_of s None = record { value = 0; next = past }
field_of s (Some x) = record { value = x.0; next = spot s x.1 }

-- the field of w bits at a place
unfoldable pub taken_at : List ℕ → Place → ℕ → Field ℕ Place
taken_at s p w = field_of s (rest s p >>= (field w).get)

-- the flag at a place
unfoldable pub flag_at : List ℕ → Place → Field Bool Place
flag_at s p = record { value = eqb (taken_at s p 1).value 1; next = (taken_at s p 1).next }

-- the signed field of 32 bits
unfoldable pub int32_at : List ℕ → Place → Field ℤ Place
int32_at s p = record { value = signed 32 (taken_at s p 32).value; next = (taken_at s p 32).next }

-- the place behind the zero bits up to a whole byte
abbrev pub spot_of : List ℕ → Option Bits → Place
spot_of s None = past
spot_of s (Some l) = spot s l

unfoldable pub pad_at : List ℕ → Place → Place
pad_at s p = spot_of s (rest s p >>= get_pad)

-- where the bytes of a text stand, and the place behind them
abbrev pub no_span : Span
no_span = record { start = 0; len = 0; next = past }

abbrev pub span_of : List ℕ → Option (ℕ × Bits) → Span
span_of s None = no_span
span_of s (Some x) = if ltb (length x.1) (8 * x.0) then no_span else record { start = (spot s x.1).byte; len = x.0; next = spot s (drop (8 * x.0) x.1) }

unfoldable pub span_at : List ℕ → Place → Span
span_at s p = span_of s (rest s p >>= (whole count).get)

-- so many bytes from a whole byte on, in n bytes
unfoldable pub span_in : ℕ → Place → ℕ → Span
span_in n p len = if eqb p.bit 0 && leb (p.byte + len) n then record { start = p.byte; len = len; next = record { byte = p.byte + len; bit = 0 } } else no_span

-- ---- what is left from a place on

pub rest_in : (s : List ℕ) (p : Place) {w : ℕ} → Fits (length s) p w → rest s p ≡ Some (drop (at p) (bits_of s))
unfolding rest
rest_in s p {w} f =
    let g : Fits (length s) p 0 = record { bit = f.bit; ends = omega (arith, f.ends) } in
    rw (fits_room g)

pub rest_out : (s : List ℕ) (p : Place) → inside (length s) p ≡ false → rest s p ≡ None
unfolding rest
rest_out s p h = rw h

-- from a place past every end there is nothing
pub far : (s : List ℕ) (p : Place) → 7 < p.bit → rest s p ≡ None
far s p h = rest_out s p (room_short (length s) p 0 (λ b. absurd (omega arith)))

pub rest_past : (s : List ℕ) → rest s past ≡ None
unfolding rest room
rest_past s = refl

pub length_rest : (s : List ℕ) (n : ℕ) → length (drop n (bits_of s)) ≡ 8 * length s - n
length_rest s n = length-drop n (bits_of s) ∙ rw length_bits

-- the bits that are left tell the place
pub spot_at : (s : List ℕ) (p : Place) {w : ℕ} → Fits (length s) p w → spot s (drop (at p) (bits_of s)) ≡ p
spot_at s p {w} f =
    let e = length_rest s (at p) in
    sym (place_at_lem p f.bit (omega (arith, f.ends)))

-- ---- a field

module _ (s : List ℕ) (p : Place) (w : ℕ) where
  get_cut : room (length s) p w ≡ false → (rest s p >>= (field w).get) ≡ None
  unfolding field
  get_cut h = cut (inside (length s) p) refl
    where
      cut : (t : Bool) → inside (length s) p ≡ t → (rest s p >>= (field w).get) ≡ None
      cut false e = rw (rest_out s p e)
      cut true e =
          let f = room_fits (length s) p 0 e in
          let k : length (drop (at p) (bits_of s)) < w = omega (arith, length_rest s (at p), room_none (length s) p w h f.bit) in
          rw (rest_in s p f, lt-leb w (length (drop (at p) (bits_of s))) k)

  get_whole : Fits (length s) p w → (rest s p >>= (field w).get) ≡ Some (dec (take w (drop (at p) (bits_of s))), drop (at p + w) (bits_of s))
  unfolding field
  get_whole f =
      let k : w ≤ length (drop (at p) (bits_of s)) = omega (arith, length_rest s (at p), f.ends) in
      rw (rest_in s p f, le-leb w (length (drop (at p) (bits_of s))) k, drop-drop)

  pub take_cut : room (length s) p w ≡ false → taken_at s p w ≡ record { value = 0; next = past }
  unfolding taken_at
  take_cut h = rw (get_cut h)

  pub take_whole : Fits (length s) p w → taken_at s p w ≡ record { value = dec (take w (drop (at p) (bits_of s))); next = place (at p + w) }
  unfolding taken_at
  take_whole f =
      let e = length_rest s (at p + w) in
      let n : 8 * length s - length (drop (at p + w) (bits_of s)) ≡ at p + w = omega (arith, f.ends) in
      rw (get_whole f, n)

-- ---- readers

-- a reader answered the value a and the place q: a is what the format gives at p and q stands behind it; or the format gives nothing, and q is past
pub record Reads {A : Type 0} (f : Format A) (s : List ℕ) (p : Place) (a : A) (q : Place) : Type 0 where
  pub reads : (rest s p >>= f.get) ≡ (rest s q >>= λ l. Some (a, l))

-- a format gives nothing at a place
pub record Refuses {A : Type 0} (f : Format A) (s : List ℕ) (p : Place) : Type 0 where
  pub gives : (rest s p >>= f.get) ≡ None

-- the bits to the next byte are zeros and q stands behind them; or they are not, and q is past
pub record Skips (s : List ℕ) (p : Place) (q : Place) : Type 0 where
  pub skips : (rest s p >>= get_pad) ≡ rest s q

pub read_field : (s : List ℕ) (p : Place) (w : ℕ) {x : Field ℕ Place} → x ≡ taken_at s p w → Reads (field w) s p x.value x.next
read_field s p w {x} ex = record { reads = read_if (room (length s) p w) refl }
  where
    read_if : (t : Bool) → room (length s) p w ≡ t → (rest s p >>= (field w).get) ≡ (rest s x.next >>= λ l. Some (x.value, l))
    read_if false e = rw (ex, take_cut s p w e, rest_past) (get_cut s p w e)
    read_if true e =
        let f = room_fits (length s) p w e in
        rw (ex, take_whole s p w f, rest_in s (place (at p + w)) (next_fits f), at_place (at p + w)) (get_whole s p w f)

chain_from : {A C : Type 0} (l m : Option Bits) (g : Bits → Option (A × Bits)) (a : A) (k : A × Bits → Option C) → (l >>= g) ≡ (m >>= λ r. Some (a, r)) → (l >>= λ r. g r >>= k) ≡ (m >>= λ r. k (a, r))
chain_from None None g a k e = refl
chain_from None (Some m) g a k e = cc
chain_from (Some l) None g a k e = rw e
chain_from (Some l) (Some m) g a k e = rw e

module _ {s : List ℕ} {p q : Place} where
  -- what is read goes on from the place behind
  pub chain : {A C : Type 0} {f : Format A} {a : A} (k : A × Bits → Option C) → Reads f s p a q → (rest s p >>= λ r. f.get r >>= k) ≡ (rest s q >>= λ r. k (a, r))
  chain {f = f} {a = a} k h = chain_from (rest s p) (rest s q) f.get a k h.reads

  -- nothing there: any value, and past
  pub read_nothing : {A : Type 0} {f : Format A} (a : A) → Refuses f s p → rest s q ≡ None → Reads f s p a q
  read_nothing a h e = record { reads = h.gives ∙ rw e }

  pub refused : {A : Type 0} {f : Format A} {a : A} → Reads f s p a q → rest s q ≡ None → Refuses f s p
  refused h e = record { gives = h.reads ∙ rw e }

pub after_end : {A : Type 0} (f : Format A) {s : List ℕ} {p : Place} → rest s p ≡ None → Refuses f s p
after_end f e = record { gives = rw e }

nowhere : {A B : Type 0} (m : Option A) → ◌≡◌ {A = Option B} (m >>= λ r. None) None
nowhere None = refl
nowhere (Some m) = refl

module _ {s : List ℕ} {p q : Place} where
  -- values that stand for others
  pub read_via : {A B : Type 0} (to : A → Option B) (from : B → A) {f : Format A} {a : A} {b : B} → Reads f s p a q → to a ≡ Some b → Reads (via to from f) s p b q
  unfolding via
  read_via {A} {B} to from h e =
      let k : A × Bits → Option (B × Bits) = λ x. to x.0 >>= λ y. Some (y, x.1) in
      let o : Option B → Option (B × Bits) = λ y. rest s q >>= λ r. y >>= λ z. Some (z, r) in
      record { reads = chain k h ∙ ap o e }

  pub refuse_via : {A B : Type 0} (to : A → Option B) (from : B → A) {f : Format A} {a : A} → Reads f s p a q → to a ≡ None → Refuses (via to from f) s p
  unfolding via
  refuse_via {A} {B} to from h e =
      let k : A × Bits → Option (B × Bits) = λ x. to x.0 >>= λ y. Some (y, x.1) in
      let o : Option B → Option (B × Bits) = λ y. rest s q >>= λ r. y >>= λ z. Some (z, r) in
      record { gives = chain k h ∙ ap o e ∙ nowhere (rest s q) }

given_from : {B C : Type 0} (l m : Option Bits) (g : Format B) (b : B) (k : Option B × Bits → Option C) → (l >>= g.get) ≡ (m >>= λ r. Some (b, r)) → (l >>= λ r. get_given true g r >>= k) ≡ (m >>= λ r. k (Some b, r))
given_from None None g b k e = refl
given_from None (Some m) g b k e = cc
given_from (Some l) None g b k e = rw e
given_from (Some l) (Some m) g b k e = rw e

skip_from : {C : Type 0} (l m : Option Bits) (k : Bits → Option C) → (l >>= get_pad) ≡ m → (l >>= λ x. get_pad x >>= k) ≡ (m >>= k)
skip_from None m k e = rw (← e)
skip_from (Some l) m k e = rw e

module _ {s : List ℕ} {p q r : Place} where
  -- one and then another
  pub read-⊗ : {A B : Type 0} {f : Format A} {g : Format B} {a : A} {b : B} → Reads f s p a q → Reads g s q b r → Reads (f ⊗ g) s p (a, b) r
  unfolding ◌⊗◌
  read-⊗ {A} {B} {f} {g} {a} {b} h i =
      let j : B × Bits → Option ((A × B) × Bits) = λ y. Some ((a, y.0), y.1) in
      let k : A × Bits → Option ((A × B) × Bits) = λ x. g.get x.1 >>= λ y. Some ((x.0, y.0), y.1) in
      record { reads = chain k h ∙ chain j i }

  -- a value and another, and zero bits up to a whole byte
  pub read_both : {A B : Type 0} {f : Format A} (test : A → Bool) {g : Format B} {a : A} {b : B} → Reads f s p a q → test a ≡ true → Reads g s q b r → Reads (depending f test g) s p (a, Some b) r
  unfolding depending
  read_both {A} {B} {f} test {g} {a} {b} h e i =
      let j : Option B × Bits → Option ((A × Option B) × Bits) = λ y. Some ((a, y.0), y.1) in
      let k : A × Bits → Option ((A × Option B) × Bits) = λ x. get_given (test x.0) g x.1 >>= λ y. Some ((x.0, y.0), y.1) in
      let o : Bool → Option ((A × Option B) × Bits) = λ t. rest s q >>= λ l. get_given t g l >>= j in
      record { reads = chain k h ∙ ap o e ∙ given_from (rest s q) (rest s r) g b j i.reads }

  pub read_whole : {A : Type 0} {f : Format A} {a : A} → Reads f s p a q → Skips s q r → Reads (whole f) s p a r
  unfolding whole
  read_whole {A} {f} {a} h i =
      let j : Bits → Option (A × Bits) = λ l. Some (a, l) in
      let k : A × Bits → Option (A × Bits) = λ x. get_pad x.1 >>= λ l. Some (x.0, l) in
      record { reads = chain k h ∙ skip_from (rest s q) (rest s r) j i.skips }

module _ {s : List ℕ} {p q : Place} where
  pub read_alone : {A B : Type 0} {f : Format A} (test : A → Bool) (g : Format B) {a : A} → Reads f s p a q → test a ≡ false → Reads (depending f test g) s p (a, None) q
  unfolding depending
  read_alone {A} {B} {f} test g {a} h e =
      let k : A × Bits → Option ((A × Option B) × Bits) = λ x. get_given (test x.0) g x.1 >>= λ y. Some ((x.0, y.0), y.1) in
      let o : Bool → Option ((A × Option B) × Bits) = λ t. rest s q >>= λ l. get_given t g l >>= λ y. Some ((a, y.0), y.1) in
      record { reads = chain k h ∙ ap o e }

  -- the fields of document 01
  pub read_flag : {v : ℕ} → Reads (field 1) s p v q → Reads flag s p (eqb v 1) q
  unfolding flag
  read_flag h = read_via _ _ h refl

  pub read_code : (lo hi : ℕ) {v : ℕ} → Reads (field 4) s p v q → within lo hi v ≡ true → Reads (code lo hi) s p v q
  unfolding code
  read_code lo hi {v} h e = read_via _ _ h (rw e)

  pub refuse_code : (lo hi : ℕ) {v : ℕ} → Reads (field 4) s p v q → within lo hi v ≡ false → Refuses (code lo hi) s p
  unfolding code
  refuse_code lo hi {v} h e = refuse_via _ _ h (rw e)

  pub read_time : {v : ℕ} → Reads (field 11) s p v q → leb v most_time ≡ true → Reads time s p v q
  unfolding time
  read_time {v} h e = read_via _ _ h (rw e)

  pub refuse_time : {v : ℕ} → Reads (field 11) s p v q → leb v most_time ≡ false → Refuses time s p
  unfolding time
  refuse_time {v} h e = refuse_via _ _ h (rw e)

  pub read_date : {v : ℕ} {t : Date} → Reads (field 32) s p v q → from_days (signed 32 v) ≡ Some t → Reads date s p t q
  unfolding date
  read_date h e = read_via _ _ h e

  pub refuse_date : {v : ℕ} → Reads (field 32) s p v q → from_days (signed 32 v) ≡ None → Refuses date s p
  unfolding date
  refuse_date h e = refuse_via _ _ h e

  pub read_period : {t : Period} → Reads (time ⊗ time) s p t q → ltb t.0 t.1 ≡ true → Reads period s p t q
  unfolding period
  read_period h e = read_via _ _ h (rw e)

  pub refuse_period : {t : Period} → Reads (time ⊗ time) s p t q → ltb t.0 t.1 ≡ false → Refuses period s p
  unfolding period
  refuse_period h e = refuse_via _ _ h (rw e)

-- a value that may be missing
pub read_none : {s : List ℕ} {p q : Place} {A : Type 0} (f : Format A) → Reads flag s p false q → Reads (optional f) s p None q
unfolding optional
read_none f h = read_via _ _ (read_alone _ f h refl) refl

pub read_some : {s : List ℕ} {p q r : Place} {A : Type 0} {f : Format A} {a : A} → Reads flag s p true q → Reads f s q a r → Reads (optional f) s p (Some a) r
unfolding optional
read_some h i = read_via _ _ (read_both _ h refl i) refl

-- one answer: what two readers of a format give at a place is the same
pub one_answer : {A : Type 0} {f : Format A} {s : List ℕ} {p q r : Place} {a b : A} → Reads f s p a q → Reads f s p b r → inside (length s) q ≡ true → (a ≡ b) × (q ≡ r)
one_answer {A} {f} {s} {p} {q} {r} {a} {b} h i k = one_if_lem (inside (length s) r) refl
  where
    fq : Fits (length s) q 0
    fq = room_fits (length s) q 0 k

    both : ◌≡◌ {A = Option (A × Bits)} (Some (a, drop (at q) (bits_of s))) (rest s r >>= λ l. Some (b, l))
    both = rw (rest_in s q fq) at (sym h.reads ∙ i.reads)

    one_if_lem : (t : Bool) → inside (length s) r ≡ t → (a ≡ b) × (q ≡ r)
    one_if_lem false e =
        let x : ◌≡◌ {A = Option (A × Bits)} (Some (a, drop (at q) (bits_of s))) None = both ∙ rw (rest_out s r e) in
        let z : ◌≡◌ {A = ℕ} 0 1 = cc in
        absurd (omega arith)
    one_if_lem true e =
        let fr = room_fits (length s) r 0 e in
        let x : ◌≡◌ {A = Option (A × Bits)} (Some (a, drop (at q) (bits_of s))) (Some (b, drop (at r) (bits_of s))) = both ∙ rw (rest_in s r fr) in
        let w : ◌≡◌ {A = A × Bits} (a, drop (at q) (bits_of s)) (b, drop (at r) (bits_of s)) = cc in
        (ap (λ (t : A × Bits). t.0) w, sym (spot_at s q fq) ∙ ap (λ (t : A × Bits). spot s t.1) w ∙ spot_at s r fr)

-- ---- what refuses a part refuses the whole

refuse_from : {A C : Type 0} {s : List ℕ} {p : Place} (f : Format A) (k : A × Bits → Option C) → Refuses f s p → (rest s p >>= λ r. f.get r >>= k) ≡ None
refuse_from {A} {C} {s} {p} f k h = sym (bind_assoc (rest s p) f.get k) ∙ ap (λ (o : Option (A × Bits)). o >>= k) h.gives

module _ {A B : Type 0} {f : Format A} {s : List ℕ} {p : Place} where
  pub refuse_value : (to : A → Option B) (from : B → A) → Refuses f s p → Refuses (via to from f) s p
  unfolding via
  refuse_value to from h =
      let k : A × Bits → Option (B × Bits) = λ x. to x.0 >>= λ y. Some (y, x.1) in
      record { gives = refuse_from f k h }

  pub refuse_first : (g : Format B) → Refuses f s p → Refuses (f ⊗ g) s p
  unfolding ◌⊗◌
  refuse_first g h =
      let k : A × Bits → Option ((A × B) × Bits) = λ x. g.get x.1 >>= λ y. Some ((x.0, y.0), y.1) in
      record { gives = refuse_from f k h }

  pub refuse_second : {q : Place} {g : Format B} {a : A} → Reads f s p a q → Refuses g s q → Refuses (f ⊗ g) s p
  unfolding ◌⊗◌
  refuse_second {q} {g} {a} h i =
      let j : B × Bits → Option ((A × B) × Bits) = λ y. Some ((a, y.0), y.1) in
      let k : A × Bits → Option ((A × B) × Bits) = λ x. g.get x.1 >>= λ y. Some ((x.0, y.0), y.1) in
      record { gives = chain k h ∙ refuse_from g j i }

  pub refuse_test : (test : A → Bool) (g : Format B) → Refuses f s p → Refuses (depending f test g) s p
  unfolding depending
  refuse_test test g h =
      let k : A × Bits → Option ((A × Option B) × Bits) = λ x. get_given (test x.0) g x.1 >>= λ y. Some ((x.0, y.0), y.1) in
      record { gives = refuse_from f k h }

  pub refuse_given : {q : Place} (test : A → Bool) {g : Format B} {a : A} → Reads f s p a q → test a ≡ true → Refuses g s q → Refuses (depending f test g) s p
  unfolding depending
  refuse_given {q} test {g} {a} h e i =
      let j : Option B × Bits → Option ((A × Option B) × Bits) = λ y. Some ((a, y.0), y.1) in
      let u : B × Bits → Option (Option B × Bits) = λ y. Some (Some y.0, y.1) in
      let k : A × Bits → Option ((A × Option B) × Bits) = λ x. get_given (test x.0) g x.1 >>= λ y. Some ((x.0, y.0), y.1) in
      let o : Bool → Option ((A × Option B) × Bits) = λ t. rest s q >>= λ l. get_given t g l >>= j in
      record { gives = chain k h ∙ ap o e ∙ sym (bind_assoc (rest s q) (λ l. g.get l >>= u) j) ∙ ap (λ (w : Option (Option B × Bits)). w >>= j) (refuse_from g u i) }

pub refuse_some : {A : Type 0} {f : Format A} {s : List ℕ} {p q : Place} → Reads flag s p true q → Refuses f s q → Refuses (optional f) s p
unfolding optional
refuse_some h i = refuse_value _ _ (refuse_given _ h refl i)

-- ---- lists

-- items before those that were read
abbrev pub onto : {A : Type 0} → List A → List A × Bits → Option (List A × Bits)
onto xs y = Some (xs ++ y.0, y.1)

module _ {A : Type 0} (f : Format A) where
  all_none : (m : ℕ) (l : Bits) → get_all f m l ≡ (get_all f m l >>= onto [])
  all_none m l = whole_if (get_all f m l)
    where
      whole_if : (o : Option (List A × Bits)) → o ≡ (o >>= onto [])
      whole_if None = refl
      whole_if (Some y) = refl

  all_first : (k : ℕ) (l : Bits) → get_all f (suc k) l ≡ (f.get l >>= λ x. get_all f k x.1 >>= onto (x.0 ∷ []))
  unfolding get_all
  all_first k l = refl

  all_zero : (l : Bits) → get_all f 0 l ≡ Some ([], l)
  unfolding get_all
  all_zero l = refl

  -- so many, and so many more
  all_add : (k m : ℕ) (l : Bits) → get_all f (k + m) l ≡ (get_all f k l >>= λ x. get_all f m x.1 >>= onto x.0)
  all_add zero m l = rw (zero-add, all_zero) (all_none m l)
  all_add (suc k) m l =
      let go : List A × Bits → Option (List A × Bits) = λ z. get_all f m z.1 >>= onto z.0 in
      let one : A × Bits → Option (List A × Bits) = λ x. get_all f k x.1 >>= onto (x.0 ∷ []) in
      rw (suc-add, all_first, all_first)
      (bind_ext (f.get l) _ (λ x. get_all f k x.1 >>= go >>= onto (x.0 ∷ [])) (λ x. ap (λ (o : Option (List A × Bits)). o >>= onto (x.0 ∷ [])) (all_add k m x.1))
      ∙ bind_ext (f.get l) _ (λ x. one x >>= go) (λ x. turn x (get_all f k x.1))
      ∙ sym (bind_assoc (f.get l) one go))
    where
      turn : (x : A × Bits) (o : Option (List A × Bits))
          → (o >>= (λ z. get_all f m z.1 >>= onto z.0) >>= onto (x.0 ∷ [])) ≡ (o >>= onto (x.0 ∷ []) >>= λ z. get_all f m z.1 >>= onto z.0)
      turn x None = refl
      turn x (Some z) = bind_assoc (get_all f m z.1) (onto z.0) (onto (x.0 ∷ []))

  -- no items yet
  pub read_no : (s : List ℕ) (p : Place) → Reads (times 0 f) s p [] p
  unfolding times get_all
  read_no s p = record { reads = refl }

  module _ {s : List ℕ} {p q : Place} {xs : List A} where
    -- as many as were read, and so many more from the place behind
    pub read_on : (k m : ℕ) → Reads (times k f) s p xs q → (rest s p >>= (times (k + m) f).get) ≡ (rest s q >>= λ l. get_all f m l >>= onto xs)
    unfolding times
    read_on k m h =
        let go : List A × Bits → Option (List A × Bits) = λ z. get_all f m z.1 >>= onto z.0 in
        bind_ext (rest s p) _ (λ l. get_all f k l >>= go) (all_add k m) ∙ chain {f = times k f} go h

    -- one item more
    pub read_more : (k : ℕ) {x : A} {r : Place} → Reads (times k f) s p xs q → Reads f s q x r → Reads (times (k + 1) f) s p (xs ++ (x ∷ [])) r
    unfolding get_all
    read_more k {x} {r} h i =
        let g : A × Bits → Option (List A × Bits) = λ y. Some (xs ++ (y.0 ∷ []), y.1) in
        record { reads = read_on k 1 h ∙ bind_ext (rest s q) _ (λ l. f.get l >>= g) (λ l. bind_assoc (f.get l) (λ y. Some (y.0 ∷ [], y.1)) (onto xs)) ∙ chain g i }

    -- an item that is refused refuses the list
    pub refuse_times : (k n : ℕ) → Reads (times k f) s p xs q → Refuses f s q → k < n → Refuses (times n f) s p
    refuse_times k n h i lt =
        let m = n - suc k in
        let e : n ≡ k + suc m = omega arith in
        record { gives = rw e (read_on k (suc m) h ∙ each m (rest s q) i.gives) }
      where
        each : (m : ℕ) (o : Option Bits) → (o >>= f.get) ≡ None → (o >>= λ l. get_all f (suc m) l >>= onto xs) ≡ None
        each m None e = refl
        each m (Some l) e = rw (all_first m l, e)

-- a count, and so many items, which rise
module _ {A : Type 0} (lt : A → A → Bool) (f : Format A) {s : List ℕ} {p q : Place} {n : ℕ} where
  list_on : {r : Place} {xs : List A} → Reads count s p n q → Reads (times n f) s q xs r → (rest s p >>= (list_of lt f).get) ≡ (rest s r >>= λ l. when (rises lt xs) (xs, l))
  unfolding list_of times
  list_on h i =
      let k : ℕ × Bits → Option (List A × Bits) = λ x. get_all f x.0 x.1 >>= λ y. when (rises lt y.0) y in
      let j : List A × Bits → Option (List A × Bits) = λ y. when (rises lt y.0) y in
      chain {f = count} k h ∙ chain {f = times n f} j i

  pub read_list : {r : Place} {xs : List A} → Reads count s p n q → Reads (times n f) s q xs r → rises lt xs ≡ true → Reads (list_of lt f) s p xs r
  read_list {r} {xs} h i e =
      let o : Bool → Option (List A × Bits) = λ t. rest s r >>= λ l. when t (xs, l) in
      record { reads = list_on h i ∙ ap o e }

  pub refuse_items : Reads count s p n q → Refuses (times n f) s q → Refuses (list_of lt f) s p
  unfolding list_of times
  refuse_items h i =
      let k : ℕ × Bits → Option (List A × Bits) = λ x. get_all f x.0 x.1 >>= λ y. when (rises lt y.0) y in
      let j : List A × Bits → Option (List A × Bits) = λ y. when (rises lt y.0) y in
      record { gives = chain {f = count} k h ∙ sym (bind_assoc (rest s q) (get_all f n) j) ∙ ap (λ (o : Option (List A × Bits)). o >>= j) i.gives }

-- ---- zero bits up to a whole byte

zeros_dec : (l : Bits) → same l (replicate (length l) 0) ≡ eqb (dec l) 0
unfolding same dec
zeros_dec [] = refl
zeros_dec (zero ∷ l) = rw (zero-mul, zero-add) (zeros_dec l)
zeros_dec (suc b ∷ l) =
    let h : suc b * 2 ^ length l + dec l ≡ 0 → ⊥ = λ e. omega (arith, pow_pos (length l)) in
    rw (eqb-suc-zero b) (sym (ne_eqb _ 0 h))

module _ (s : List ℕ) (p : Place) where
  -- as many bits as there are to the next byte
  abbrev gap_of : ℕ
  gap_of = (8 - p.bit) % 8

  gap_fits : Fits (length s) p 0 → Fits (length s) p gap_of
  gap_fits f = record { bit = f.bit; ends = omega (arith, f.bit, f.ends) }

  skip_in : Fits (length s) p 0 → (rest s p >>= get_pad) ≡ when (eqb (dec (take gap_of (drop (at p) (bits_of s)))) 0) (drop (at p + gap_of) (bits_of s))
  unfolding get_pad
  skip_in f =
      let l = drop (at p) (bits_of s) in
      let n = length_rest s (at p) in
      let g : length l % 8 ≡ gap_of = omega (arith, f.bit, f.ends) in
      let t : length (take gap_of l) ≡ gap_of = length-take-le gap_of l (omega (arith, (gap_fits f).ends)) in
      rw (rest_in s p f, g, ← zeros_dec (take gap_of l), t, drop-drop)

  module _ {x : Field ℕ Place} (ex : x ≡ taken_at s p gap_of) where
    skip_if : (rest s p >>= get_pad) ≡ rest s (if eqb x.value 0 then x.next else past)
    skip_if = skip_case (inside (length s) p) refl
      where
        value_case : Fits (length s) p 0 → (v : ℕ) (t : Bool) → eqb v 0 ≡ t → when (eqb v 0) (drop (at p + gap_of) (bits_of s)) ≡ rest s (if eqb v 0 then place (at p + gap_of) else past)
        value_case f v true e = rw (e, rest_in s (place (at p + gap_of)) (next_fits (gap_fits f)), at_place (at p + gap_of))
        value_case f v false e = rw (e, rest_past)

        skip_case : (t : Bool) → inside (length s) p ≡ t → (rest s p >>= get_pad) ≡ rest s (if eqb x.value 0 then x.next else past)
        skip_case false e = rw (rest_out s p e, ex, take_cut s p gap_of (room_more (length s) p 0 gap_of (omega arith) e)) (sym (rest_past s))
        skip_case true e =
            let f = room_fits (length s) p 0 e in
            let v = dec (take gap_of (drop (at p) (bits_of s))) in
            rw (skip_in f, ex, take_whole s p gap_of (gap_fits f)) (value_case f v (eqb v 0) refl)

    next_spot : spot_of s (rest s x.next) ≡ x.next
    next_spot = next_case (room (length s) p gap_of) refl
      where
        next_case : (t : Bool) → room (length s) p gap_of ≡ t → spot_of s (rest s x.next) ≡ x.next
        next_case false e = rw (ex, take_cut s p gap_of e, rest_past)
        next_case true e =
            let f = room_fits (length s) p gap_of e in
            let g = next_fits f in
            rw (ex, take_whole s p gap_of f, rest_in s (place (at p + gap_of)) g) (spot_at s (place (at p + gap_of)) g)

    pub pad_told : pad_at s p ≡ if eqb x.value 0 then x.next else past
    unfolding pad_at
    pad_told = ap (spot_of s) skip_if ∙ value_case (eqb x.value 0)
      where
        value_case : (t : Bool) → spot_of s (rest s (if t then x.next else past)) ≡ if t then x.next else past
        value_case true = next_spot
        value_case false = rw rest_past

  pub skip_pad : {q : Place} → q ≡ pad_at s p → Skips s p q
  skip_pad e = record { skips = skip_if refl ∙ ap (rest s) (sym (pad_told refl) ∙ sym e) }

  pub pad_whole : {q : Place} → q ≡ pad_at s p → q.bit % 8 ≡ 0
  unfolding pad_at
  pad_whole {q} eq = rw eq (whole_case (inside (length s) p) refl)
    where
      zero_case : Fits (length s) p 0 → (t : Bool) → (spot_of s (when t (drop (at p + gap_of) (bits_of s)))).bit % 8 ≡ 0
      zero_case f false = refl
      zero_case f true = omega (arith, length_rest s (at p + gap_of), f.bit, (gap_fits f).ends)

      whole_case : (t : Bool) → inside (length s) p ≡ t → (pad_at s p).bit % 8 ≡ 0
      whole_case false e = rw (rest_out s p e)
      whole_case true e = let f = room_fits (length s) p 0 e in rw (skip_in f) (zero_case f (eqb (dec (take gap_of (drop (at p) (bits_of s)))) 0))

-- ---- texts

-- a text was found: where its bytes stand; and if they are UTF-8, it is the definition's text, and else there is none
pub record Spans (s : List ℕ) (p : Place) (x : Span) : Type 0 where
  pub is : x ≡ span_at s p
  pub reads : is_utf8 (take x.len (drop x.start s)) ≡ true → Reads text s p (take x.len (drop x.start s)) x.next
  pub refuses : is_utf8 (take x.len (drop x.start s)) ≡ false → Refuses text s p

-- a text's bytes lie within
pub span_ends : (s : List ℕ) (p : Place) {x : Span} → x ≡ span_at s p → x.start + x.len ≤ length s
unfolding span_at
span_ends s p {x} e = rw e (by_place (taken_at s p 32).value (pad_at s (taken_at s p 32).next) (read_whole (read_field s p 32 refl) (skip_pad s _ refl)))
  where
    by_room : (b : Place) (n : ℕ) → Fits (length s) b 0 → (t : Bool) → ltb (length (drop (at b) (bits_of s))) (8 * n) ≡ t
        → (span_of s (Some (n, drop (at b) (bits_of s)))).start + (span_of s (Some (n, drop (at b) (bits_of s)))).len ≤ length s
    by_room b n f true h = rw h (omega arith)
    by_room b n f false h =
        let l = ltb-false (length (drop (at b) (bits_of s))) (8 * n) h in
        let z = length_rest s (at b) in
        rw h (omega arith)

    by_inside : (b : Place) (n : ℕ) (t : Bool) → inside (length s) b ≡ t
        → (span_of s (rest s b >>= λ l. Some (n, l))).start + (span_of s (rest s b >>= λ l. Some (n, l))).len ≤ length s
    by_inside b n false h = rw (rest_out s b h) (omega arith)
    by_inside b n true h = rw (rest_in s b (room_fits (length s) b 0 h)) (by_room b n (room_fits (length s) b 0 h) (ltb (length (drop (at b) (bits_of s))) (8 * n)) refl)

    by_place : (n : ℕ) (b : Place) → Reads (whole count) s p n b
        → (span_of s (rest s p >>= (whole count).get)).start + (span_of s (rest s p >>= (whole count).get)).len ≤ length s
    by_place n b h = rw h.reads (by_inside b n (inside (length s) b) refl)

-- the bytes from a place to another
pub between : (s : List ℕ) (a n : ℕ) → take (a + n - a) (drop a s) ≡ take n (drop a s)
between s a n = let e : a + n - a ≡ n = omega arith in rw e

-- ---- flags and signed fields

pub read_bit : (s : List ℕ) (p : Place) {x : Field Bool Place} → x ≡ flag_at s p → Reads flag s p x.value x.next
unfolding flag_at
read_bit s p e = rw e (read_flag (read_field s p 1 refl))

module _ (s : List ℕ) (p : Place) {x : Field ℤ Place} (e : x ≡ int32_at s p) where
  pub read_int32 : {t : Date} → from_days x.value ≡ Some t → Reads date s p t x.next
  unfolding int32_at
  read_int32 h = rw e (read_date (read_field s p 32 refl) (rw e at h))

  pub refuse_int32 : from_days x.value ≡ None → Refuses date s p
  unfolding int32_at
  refuse_int32 h = refuse_date (read_field s p 32 refl) (rw e at h)

-- a field is below its power of two
pub field_lt : (s : List ℕ) (p : Place) (w : ℕ) {x : Field ℕ Place} → x ≡ taken_at s p w → x.value < 2 ^ w
field_lt s p w {x} ex = rw ex (lt_if (room (length s) p w) refl)
  where
    lt_if : (t : Bool) → room (length s) p w ≡ t → (taken_at s p w).value < 2 ^ w
    lt_if false e = rw (take_cut s p w e) (pow_pos w)
    lt_if true e = let f = room_fits (length s) p w e in rw (take_whole s p w f) (dec_part s (at p) w f.ends)
