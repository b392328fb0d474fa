-- What the loops over records see in the buffer. Assumes nothing.
use Rattle.std.specs.Prelude.{if◌then◌else◌, ◌≡◌, Bool, ◌||◌, List, [], ◌++◌, map}
use Rattle.std.proofs.Math.Path.{refl, sym, ap}
use Rattle.std.proofs.Common.{◌∙◌, take-append-drop, length-take-le}
use Rattle.std.proofs.Math.Bool.{true, false}
use Rattle.std.specs.Prelude.{Option, Some, None}
use Prim.Native.Nat.{ℕ, zero, suc, ◌+◌, ◌-◌, ◌*◌, ◌/◌, ◌%◌, ◌^◌, ◌≤◌, ◌<◌}
use Rattle.std.proofs.Math.Nat.{sub-zero}
use native.Mathlib.Omega.{arith}
use Rattle.std.proofs.Math.Dec.{ltb}
use Rattle.std.proofs.Math.ListN.{length, take, drop, length-map, length-drop}
use borrow.Author.Tests.{ltb-false}
use Rattle.definition.specs.Base.{◌>>=◌, ◌or◌, some?, count}
use Rattle.definition.specs.Text.{Text}
use Rattle.definition.specs.Bits.{Bits, bits_of, bytes_up_to}
use Rattle.definition.specs.Format.{Format, times, whole, count as counts}
use Rattle.laws.specs.Bits.{Bytes, bits_append, bits_drop, bytes_bits, length_bytes}
use Rattle.laws.specs.Each.{each_take, each_drop}
use Rattle.laws.specs.Options.{never}
pub use Rattle.laws.specs.Bits.{bytes_of_lem}
use Rattle.bits.specs.Places.{at, past, inside, Fits, room_fits}
use Rattle.bits.specs.Reads.{rest, rest_in, rest_out, rest_past, length_rest, Reads, chain, taken_at, pad_at, span_of, span_at, read_field, read_whole, skip_pad, pad_whole, field_lt}
use Rattle.bits.specs.declared.Span.{Span}
use Rattle.bits.specs.declared.Place.{Place}
use Rattle.model.specs.Answers.{read_at, seen, read_there, read_nowhere}
use Rattle.model.specs.Parts.{raw, record_of}
use Rattle.model.specs.Passes.{Passes, told, Told, refusing, reading}
use Rattle.model.specs.declared.records.Kind.{Kind}
use Rattle.names.specs.Texts.{place_of_row, text_at, texts_at}

bytes_front : (n : ℕ) (s : List ℕ) → Bytes s → n ≤ length s → bytes_up_to n (bits_of s) ≡ take n s
bytes_front n s b h =
    let l : length (take n s) ≡ n = length-take-le n s h in
    let e : bits_of s ≡ bits_of (take n s) ++ bits_of (drop n s) = ap bits_of (sym (take-append-drop n s)) ∙ bits_append (take n s) (drop n s) in
    ap (bytes_up_to n) e ∙ ap (λ (k : ℕ). bytes_up_to k (bits_of (take n s) ++ bits_of (drop n s))) (sym l) ∙ bytes_bits (bits_of (drop n s)) (each_take n b)

-- ---- the place of a row

-- the place that a skipper answered, or past where it is not inside
pub passed_to : {A : Type 0} {f : Format A} {s : List ℕ} {p q : Place} → Passes f s p q → (read_at f s p).1 ≡ if inside (length s) q then q else past
passed_to {f = f} {s} {p} {q} h = by_told (inside (length s) q) refl (told h)
  where
    by_told : (t : Bool) → inside (length s) q ≡ t → Told f s p q → (read_at f s p).1 ≡ if t then q else past
    by_told false e (refusing n z) = rw (read_nowhere n)
    by_told false e (reading a l z r) = never (sym (rest_out s q e) ∙ z)
    by_told true e (refusing n z) = never (sym z ∙ rest_in s q (room_fits (length s) q 0 e))
    by_told true e (reading a l z r) = rw (read_there z r)

place_rest : {A : Type 0} {f : Format A} {s : List ℕ} {p q : Place} → Passes f s p q → rest s (read_at f s p).1 ≡ rest s q
place_rest {f = f} {s} {p} {q} h = ap (rest s) (passed_to h) ∙ by_room (inside (length s) q) refl
  where
    by_room : (t : Bool) → inside (length s) q ≡ t → rest s (if t then q else past) ≡ rest s q
    by_room true e = refl
    by_room false e = rest_past s ∙ sym (rest_out s q e)

same_read : {A : Type 0} (f : Format A) (s : List ℕ) (p q : Place) → rest s p ≡ rest s q → read_at f s p ≡ read_at f s q
unfolding read_at
same_read f s p q e = ap (λ (o : Option Bits). seen s (o >>= f.get)) e

place_is : (kind : Kind) (row : ℕ) {s : List ℕ} {p q : Place} → Passes (times row (record_of false kind)) s p q → place_of_row kind s p row ≡ if inside (length s) q then q else past
unfolding place_of_row
place_is kind row h = passed_to h

module _ (kind : Kind) (row : ℕ) {s : List ℕ} {p q : Place} (h : Passes (times row (record_of false kind)) s p q) where
  pub place_in : inside (length s) q ≡ true → q ≡ place_of_row kind s p row
  place_in e = sym (place_is kind row h ∙ rw e)

  pub place_out : inside (length s) q ≡ false → past ≡ place_of_row kind s p row
  place_out e = sym (place_is kind row h ∙ rw e)

-- the text of a row by its place
pub row_text : (kind : Kind) (row : ℕ) (s : List ℕ) (p : Place) {q : Place} {t : Text} → q ≡ place_of_row kind s p row → t ≡ ((read_at raw s q).0 or []) → t ≡ text_at kind s p row
unfolding text_at
row_text kind row s p e h = h ∙ ap (λ (q : Place). (read_at raw s q).0 or []) e

-- the text of the row at which a loop stands
pub text_here : (kind : Kind) (row : ℕ) {s : List ℕ} {p q : Place} → Passes (times row (record_of false kind)) s p q → (read_at raw s q).0 or [] ≡ text_at kind s p row
unfolding text_at place_of_row
text_here kind row {s} {p} {q} h = ap (λ (x : Option Text × Place). x.0 or []) (same_read raw s q (place_of_row kind s p row) (sym (place_rest h)))

-- ---- some of the texts

length_count : (from n : ℕ) → length (count from n) ≡ n
unfolding count
length_count from zero = refl
length_count from (suc n) = ap suc (length_count (suc from) n)

module _ (kind : Kind) (s : List ℕ) (p : Place) (n : ℕ) where
  pub texts_length : length (texts_at kind s p n) ≡ n
  unfolding texts_at
  texts_length = length-map (count 0 n) (text_at kind s p) ∙ length_count 0 n

  module _ (test : Text → Bool) where
    -- whether one of those from i on passes, as of all
    abbrev pub Left : ℕ → Type 0
    Left i = some? test (texts_at kind s p n) ≡ some? test (map (text_at kind s p) (count i (n - i)))

    pub left_start : Left 0
    unfolding texts_at
    left_start = rw sub-zero

    module _ (i : ℕ) (l : Left i) where
      next_count : i < n → some? test (map (text_at kind s p) (count i (n - i))) ≡ test (text_at kind s p i) || some? test (map (text_at kind s p) (count (i + 1) (n - (i + 1))))
      unfolding count some?
      next_count h =
          let z : n - i ≡ suc (n - (i + 1)) = omega arith in
          let y : i + 1 ≡ suc i = omega arith in
          rw (z, y)

      pub left_hit : i < n → test (text_at kind s p i) ≡ true → true ≡ some? test (texts_at kind s p n)
      left_hit h e = sym (l ∙ next_count h ∙ rw e)

      pub left_on : i < n → test (text_at kind s p i) ≡ false → Left (i + 1)
      left_on h e = l ∙ next_count h ∙ rw e

      pub left_end : n ≤ i → false ≡ some? test (texts_at kind s p n)
      unfolding count some?
      left_end h =
          let z : n - i ≡ 0 = omega arith in
          sym (l ∙ rw z)

-- ---- a text of any bytes

abbrev raw_from : ℕ × Bits → Option (Text × Bits)
raw_from x = if ltb (length x.1) (8 * x.0) then None else Some (bytes_up_to x.0 x.1, drop (8 * x.0) x.1)

module _ (s : List ℕ) (p : Place) where
  size : ℕ
  size = (taken_at s p 32).value

  body : Place
  body = pad_at s (taken_at s p 32).next

  counted : Reads (whole counts) s p size body
  unfolding size body
  counted = read_whole (read_field s p 32 refl) (skip_pad s _ refl)

  raw_on : (rest s p >>= raw.get) ≡ (rest s body >>= λ l. raw_from (size, l))
  unfolding raw
  raw_on = chain raw_from counted

  span_on : span_at s p ≡ span_of s (rest s body >>= λ l. Some (size, l))
  unfolding span_at
  span_on = ap (span_of s) counted.reads

  abbrev shown : Option (Text × Bits) → Text
  shown o = (seen s o).0 or []

  raw_shown : ((read_at raw s p).0 or []) ≡ shown (rest s body >>= λ l. raw_from (size, l))
  unfolding read_at
  raw_shown = ap shown raw_on

  -- it is as long as a count says
  pub raw_length : length ((read_at raw s p).0 or []) < 2 ^ 32
  unfolding size
  raw_length = rw raw_shown (by_rest (rest s body))
    where
      by_room : (l : Bits) (t : Bool) → length (shown (if t then None else Some (bytes_up_to size l, drop (8 * size) l))) < 2 ^ 32
      by_room l true = omega arith
      by_room l false = rw length_bytes (field_lt s p 32 refl)

      by_rest : (o : Option Bits) → length (shown (o >>= λ l. raw_from (size, l))) < 2 ^ 32
      by_rest None = omega arith
      by_rest (Some l) = by_room l (ltb (length l) (8 * size))

  abbrev bytes_at : Span → Text
  bytes_at x = take x.len (drop x.start s)

  -- its bytes stand where they were found
  pub raw_spanned : Bytes s → {x : Span} → x ≡ span_at s p → take x.len (drop x.start s) ≡ ((read_at raw s p).0 or [])
  unfolding body
  raw_spanned bs {x} e = rw (e, span_on, raw_shown) (by_inside (inside (length s) body) refl)
    where
      by_room : Fits (length s) body 0 → (t : Bool) → ltb (length (drop (at body) (bits_of s))) (8 * size) ≡ t
          → bytes_at (span_of s (Some (size, drop (at body) (bits_of s)))) ≡ shown (raw_from (size, drop (at body) (bits_of s)))
      by_room f true h = rw h
      by_room f false h =
          let l = ltb-false (length (drop (at body) (bits_of s))) (8 * size) h in
          let n = length_rest s (at body) in
          let w : body.bit % 8 ≡ 0 = pad_whole s (taken_at s p 32).next refl in
          let a : at body ≡ 8 * body.byte = omega (arith, f.bit) in
          let k : body.byte + size ≤ length s = omega (arith, f.ends) in
          let x : (8 * length s - length (drop (at body) (bits_of s))) / 8 ≡ body.byte = omega arith in
          let y : bytes_up_to size (drop (at body) (bits_of s)) ≡ take size (drop body.byte s) =
          rw (a, bits_drop body.byte s (omega arith)) (bytes_front size (drop body.byte s) (each_drop body.byte bs) (omega (arith, length-drop body.byte s))) in
          rw (h, x, y)

      by_inside : (t : Bool) → inside (length s) body ≡ t → bytes_at (span_of s (rest s body >>= λ l. Some (size, l))) ≡ shown (rest s body >>= λ l. raw_from (size, l))
      by_inside false e = rw (rest_out s body e)
      by_inside true e = let f = room_fits (length s) body 0 e in rw (rest_in s body f) (by_room f (ltb (length (drop (at body) (bits_of s))) (8 * size)) refl)
