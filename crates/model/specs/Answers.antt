-- What a reader answers: the value that a format gives at a place, and the place behind it; where it gives nothing, no value and the place past
-- every end. A format whose values leave the tail of the bits behind them is read by what is answered. Assumes nothing.
use Rattle.std.proofs.Math.Path.{◌≡◌, refl, sym, ap}
use Rattle.std.proofs.Common.{◌∙◌, arith, drop_of_length-le, leb-true, leb-false}
use Rattle.std.specs.Prelude.{if◌then◌else◌, Bool, List, ℕ, ◌+◌, ◌-◌, ◌*◌, length, take, ℤ, leb, ltb}
use Rattle.std.proofs.Math.Bool.{true, false}
use Rattle.std.specs.Prelude.{Option, Some, None}
use Rattle.std.proofs.Math.ListN.{drop}
use Rattle.std.proofs.Math.Seq.{drop-drop}
use Rattle.laws.specs.Options.{never}
use Rattle.definition.specs.Base.{◌>>=◌, ◌or◌, when}
use Rattle.definition.specs.Bits.{Bits, bits_of, dec}
use Rattle.definition.specs.Answer.{day_number_of}
use Rattle.definition.specs.Format.{Format, field, via, ◌⊗◌, depending, get_given, optional, flag, row, time, period, date}
use Rattle.definition.specs.Pack.{Counts as CountsOf, counts}
use Rattle.laws.specs.Bits.{length_bits}
use Rattle.bits.specs.Places.{at, place, past, inside, Fits, room_fits, at_place}
use Rattle.bits.specs.Reads.{rest, Reads, Refuses, spot, flag_at, span_at, rest_in, rest_out, rest_past, length_rest, spot_at}
use Rattle.bits.specs.declared.Place.{Place}
use Rattle.bits.specs.declared.Span.{Span}

abbrev pub seen : {A : Type 0} → List ℕ → Option (A × Bits) → Option A × Place
seen s None = (None, past)
seen s (Some x) = (Some x.0, spot s x.1)

unfoldable pub read_at : {A : Type 0} → Format A → List ℕ → Place → Option A × Place
read_at f s p = seen s (rest s p >>= f.get)

-- with a value that stands for a missing one
unfoldable pub or_at : {A : Type 0} → A → Format A → List ℕ → Place → A × Place
or_at d f s p = ((read_at f s p).0 or d, (read_at f s p).1)

abbrev pub row_at : List ℕ → Place → Option ℕ × Place
row_at = or_at None (optional row)

abbrev pub rows_at : List ℕ → Place → (ℕ × ℕ) × Place
rows_at = or_at (0, 0) (row ⊗ row)

abbrev pub counts_at : List ℕ → Place → CountsOf × Place
counts_at = or_at (0, (0, (0, (0, (0, 0))))) counts

-- a date by document 01's number
abbrev pub date_at : List ℕ → Place → Option ℤ × Place
date_at s p = (day_number_of (read_at date s p).0, (read_at date s p).1)

abbrev pub spanned : Span → Option (ℕ × ℕ) × Place
spanned x = if ltb 7 x.next.bit then (None, past) else (Some (x.start, x.len), x.next)

unfoldable pub name_at : List ℕ → Place → Option (ℕ × ℕ) × Place
name_at s p = if (flag_at s p).value then spanned (span_at s (flag_at s p).next) else (None, (flag_at s p).next)

-- ---- places

-- a place from which bits are left is inside
pub rest_fits : (s : List ℕ) (q : Place) {l : Bits} → rest s q ≡ Some l → Fits (length s) q 0
rest_fits s q {l} e = by_room (inside (length s) q) refl
  where
    by_room : (t : Bool) → inside (length s) q ≡ t → Fits (length s) q 0
    by_room false h = absurd (never (sym (rest_out s q h) ∙ e))
    by_room true h = room_fits (length s) q 0 h

rest_is : (s : List ℕ) (q : Place) {l : Bits} → rest s q ≡ Some l → l ≡ drop (at q) (bits_of s)
rest_is s q {l} e = let z : Some (drop (at q) (bits_of s)) ≡ Some l = sym (rest_in s q (rest_fits s q e)) ∙ e in cc

spot_is : (s : List ℕ) (q : Place) {l : Bits} → rest s q ≡ Some l → spot s l ≡ q
spot_is s q e = rw (rest_is s q e) (spot_at s q (rest_fits s q e))

-- the bits from a place on stand at their spot
spot_rest : (s : List ℕ) (k : ℕ) → rest s (spot s (drop k (bits_of s))) ≡ Some (drop k (bits_of s))
spot_rest s k =
    let n = length (drop k (bits_of s)) in
    let m = 8 * length s - n in
    let e : n ≡ 8 * length s - k = length_rest s k in
    let f : Fits (length s) (place m) 0 = record { bit = omega arith; ends = omega arith } in
    rest_in s (place m) f ∙ ap Some (ap (λ (i : ℕ). drop i (bits_of s)) (at_place m) ∙ by_end (leb k (8 * length s)) refl)
  where
    by_end : (t : Bool) → leb k (8 * length s) ≡ t → drop (8 * length s - length (drop k (bits_of s))) (bits_of s) ≡ drop k (bits_of s)
    by_end true h =
        let l = leb-true k (8 * length s) h in
        let e = length_rest s k in
        let z : 8 * length s - length (drop k (bits_of s)) ≡ k = omega arith in
        rw z
    by_end false h =
        let l = leb-false k (8 * length s) h in
        let e = length_rest s k in
        let n = length_bits s in
        drop_of_length-le (bits_of s) {i = 8 * length s - length (drop k (bits_of s))} (omega arith) ∙ sym (drop_of_length-le (bits_of s) {i = k} (omega arith))

-- ---- from what is read to what is answered

module _ {A : Type 0} {f : Format A} {s : List ℕ} {p : Place} where
  pub read_there : {a : A} {q : Place} {l : Bits} → rest s q ≡ Some l → Reads f s p a q → read_at f s p ≡ (Some a, q)
  unfolding read_at
  read_there {a} {q} {l} e h =
      let z : ◌≡◌ {A = Option (A × Bits)} (rest s p >>= f.get) (Some (a, l)) = h.reads ∙ rw e in
      ap (seen s) z ∙ ap (λ (r : Place). (Some a, r)) (spot_is s q e)

  pub read_nowhere : Refuses f s p → read_at f s p ≡ (None, past)
  unfolding read_at
  read_nowhere h = ap (seen s) h.gives

  module _ (d : A) where
    pub or_there : {a : A} {q : Place} {l : Bits} → rest s q ≡ Some l → Reads f s p a q → or_at d f s p ≡ (a, q)
    unfolding or_at
    or_there e h = rw (read_there e h)

    pub or_nowhere : Refuses f s p → or_at d f s p ≡ (d, past)
    unfolding or_at
    or_nowhere h = rw (read_nowhere h)

-- ---- and back

-- what is left behind a value is a tail of the bits
pub record Tails {A : Type 0} (f : Format A) : Type 0 where
  pub tail : (l m : Bits) (a : A) → f.get l ≡ Some (a, m) → (n : ℕ) × (m ≡ drop n l)

pub tails_field : (w : ℕ) → Tails (field w)
unfolding field
tails_field w = record { tail = λ l m a. by_room l m a (leb w (length l)) }
  where
    by_room : (l m : Bits) (a : ℕ) (t : Bool) → ◌≡◌ {A = Option (ℕ × Bits)} (when t (dec (take w l), drop w l)) (Some (a, m)) → (n : ℕ) × (m ≡ drop n l)
    by_room l m a false e = absurd (never e)
    by_room l m a true e = let z : ◌≡◌ {A = ℕ × Bits} (dec (take w l), drop w l) (a, m) = cc in (w, sym (ap (λ (x : ℕ × Bits). x.1) z))

module _ {A B : Type 0} {f : Format A} (t : Tails f) where
  pub tails_via : (to : A → Option B) (from : B → A) → Tails (via to from f)
  unfolding via
  tails_via to from = record { tail = λ l m b. by_value l m b (f.get l) refl }
    where
      by_to : (l m r : Bits) (b : B) (a : A) → f.get l ≡ Some (a, r) → (o : Option B) → ◌≡◌ {A = Option (B × Bits)} (o >>= λ b. Some (b, r)) (Some (b, m)) → (n : ℕ) × (m ≡ drop n l)
      by_to l m r b a z None e = absurd (never e)
      by_to l m r b a z (Some c) e =
          let w : ◌≡◌ {A = B × Bits} (c, r) (b, m) = cc in
          let (n, u) = t.tail l r a z in
          (n, sym (ap (λ (x : B × Bits). x.1) w) ∙ u)

      by_value : (l m : Bits) (b : B) (o : Option (A × Bits)) → f.get l ≡ o → ◌≡◌ {A = Option (B × Bits)} (o >>= λ x. to x.0 >>= λ b. Some (b, x.1)) (Some (b, m)) → (n : ℕ) × (m ≡ drop n l)
      by_value l m b None z e = absurd (never e)
      by_value l m b (Some x) z e = by_to l m x.1 b x.0 z (to x.0) e

-- behind a second value, which is read from what the first leaves
behind_second : {A C D : Type 0} {f : Format A} (t : Tails f) (g : Bits → Option (C × Bits)) (pair : C → D) (l r m : Bits) (a : A) (d : D) → f.get l ≡ Some (a, r)
    → ((k : Bits) (c : C) → g r ≡ Some (c, k) → (n : ℕ) × (k ≡ drop n r)) → (o : Option (C × Bits)) → g r ≡ o → ◌≡◌ {A = Option (D × Bits)} (o >>= λ y. Some (pair y.0, y.1)) (Some (d, m))
    → (n : ℕ) × (m ≡ drop n l)
behind_second t g pair l r m a d z u None y e = absurd (never e)
behind_second {D = D} t g pair l r m a d z u (Some x) y e =
    let w : ◌≡◌ {A = D × Bits} (pair x.0, x.1) (d, m) = cc in
    let (i, v) = t.tail l r a z in
    let (j, k) = u x.1 x.0 y in
    (i + j, sym (ap (λ (x : D × Bits). x.1) w) ∙ k ∙ ap (drop j) v ∙ drop-drop j i l)

module _ {A B : Type 0} {f : Format A} (t : Tails f) where
  pub tails-⊗ : {g : Format B} → Tails g → Tails (f ⊗ g)
  unfolding ◌⊗◌
  tails-⊗ {g} u = record { tail = λ l m c. by_value l m c (f.get l) refl }
    where
      by_value : (l m : Bits) (c : A × B) (o : Option (A × Bits)) → f.get l ≡ o → ◌≡◌ {A = Option ((A × B) × Bits)} (o >>= λ x. g.get x.1 >>= λ y. Some ((x.0, y.0), y.1)) (Some (c, m)) → (n : ℕ) × (m ≡ drop n l)
      by_value l m c None z e = absurd (never e)
      by_value l m c (Some x) z e = behind_second t g.get (λ b. (x.0, b)) l x.1 m x.0 c z (λ k b. u.tail x.1 k b) (g.get x.1) refl e

  pub tails_depending : (test : A → Bool) {g : Format B} → Tails g → Tails (depending f test g)
  unfolding depending
  tails_depending test {g} u = record { tail = λ l m c. by_value l m c (f.get l) refl }
    where
      given_tail : (b : Bool) (r k : Bits) (c : Option B) → get_given b g r ≡ Some (c, k) → (n : ℕ) × (k ≡ drop n r)
      given_tail false r k c e = let w : ◌≡◌ {A = Option B × Bits} (None, r) (c, k) = cc in (0, sym (ap (λ (x : Option B × Bits). x.1) w))
      given_tail true r k c e = by_given (g.get r) refl e
        where
          by_given : (o : Option (B × Bits)) → g.get r ≡ o → ◌≡◌ {A = Option (Option B × Bits)} (o >>= λ y. Some (Some y.0, y.1)) (Some (c, k)) → (n : ℕ) × (k ≡ drop n r)
          by_given None z e = absurd (never e)
          by_given (Some y) z e =
              let w : ◌≡◌ {A = Option B × Bits} (Some y.0, y.1) (c, k) = cc in
              let (n, v) = u.tail r y.1 y.0 z in
              (n, sym (ap (λ (x : Option B × Bits). x.1) w) ∙ v)

      by_value : (l m : Bits) (c : A × Option B) (o : Option (A × Bits)) → f.get l ≡ o → ◌≡◌ {A = Option ((A × Option B) × Bits)} (o >>= λ x. get_given (test x.0) g x.1 >>= λ y. Some ((x.0, y.0), y.1)) (Some (c, m)) → (n : ℕ) × (m ≡ drop n l)
      by_value l m c None z e = absurd (never e)
      by_value l m c (Some x) z e = behind_second t (get_given (test x.0) g) (λ b. (x.0, b)) l x.1 m x.0 c z (given_tail (test x.0) x.1) (get_given (test x.0) g x.1) refl e

pub tails_row : Tails (optional row)
unfolding optional flag
tails_row = tails_via (tails_depending (tails_via (tails_field 1) _ _) _ (tails_field 32)) _ _

pub tails_date : Tails date
unfolding date
tails_date = tails_via (tails_field 32) _ _

pub tails_period : Tails period
unfolding period time
tails_period = tails_via (tails-⊗ (tails_via (tails_field 11) _ _) (tails_via (tails_field 11) _ _)) _ _

pub tails_counts : Tails counts
tails_counts = tails-⊗ (tails_field 32) (tails-⊗ (tails_field 32) (tails-⊗ (tails_field 32) (tails-⊗ (tails_field 32) (tails-⊗ (tails_field 32) (tails_field 32)))))

module _ {A : Type 0} {f : Format A} (t : Tails f) (d : A) (s : List ℕ) (p : Place) where
  or_read : Reads f s p (or_at d f s p).0 (or_at d f s p).1
  unfolding or_at read_at
  or_read = record { reads = by_value (rest s p) refl }
    where
      by_get : (l : Bits) → rest s p ≡ Some l → (o : Option (A × Bits)) → f.get l ≡ o → o ≡ (rest s (seen s o).1 >>= λ r. Some ((seen s o).0 or d, r))
      by_get l z None e = rw (rest_past s)
      by_get l z (Some x) e =
          let (n, u) = t.tail l x.1 x.0 e in
          let v : x.1 ≡ drop (at p + n) (bits_of s) = u ∙ ap (drop n) (rest_is s p z) ∙ drop-drop n (at p) (bits_of s) in
          let w : rest s (spot s x.1) ≡ Some x.1 = rw v (spot_rest s (at p + n)) in
          sym (ap (λ (o : Option Bits). o >>= λ r. Some (x.0, r)) w)

      by_value : (o : Option Bits) → rest s p ≡ o → (o >>= f.get) ≡ (rest s (seen s (o >>= f.get)).1 >>= λ r. Some ((seen s (o >>= f.get)).0 or d, r))
      by_value None z = rw (rest_past s)
      by_value (Some l) z = by_get l z (f.get l) refl

  -- what was answered was read
  pub or_reads : {x : A × Place} → x ≡ or_at d f s p → Reads f s p x.0 x.1
  or_reads e = rw e or_read

  pub next_reads : {q : Place} → q ≡ (read_at f s p).1 → Reads f s p ((read_at f s p).0 or d) q
  unfolding or_at
  next_reads e = rw e or_read
