-- Where the bytes of a text stand. Assumes nothing.
use Rattle.std.specs.Prelude.{if◌then◌else◌}
use mathlib.Core.Path.{◌≡◌, refl, sym, ap, ◌∙◌}
use mathlib.Core.List.{List, [], ◌∷◌}
use mathlib.Core.Bool.{Bool, true, false, ◌&&◌}
use Prim.Native.Nat.{ℕ, ◌+◌, ◌-◌, ◌*◌, ◌/◌, ◌%◌, ◌≤◌, ◌<◌, suc, zero}
use native.Mathlib.Omega.{arith}
use lib.ListN.{length, take, drop, get_or, length-drop}
use lib.Seq.{drop-drop, take_at, drop_at, get_or-drop}
use lib.Dec.{leb, ltb, eqb}
use borrow.Author.Tests.{leb-true, leb-false, eq-eqb, lt-ltb, le-leb, lt-leb, le-ltb, eqb-true, eqb-false}
use Rattle.bits.specs.declared.Place.{Place}
use Rattle.bits.specs.Reads.{rest, no_span, span_of, span_at, span_in, rest_in, rest_out, rest_past, length_rest, Reads, Refuses, chain, read_nothing, Spans}
use Rattle.bits.specs.Places.{place_at_lem, at, place, inside, Fits, room_fits}
use Rattle.definition.specs.Base.{◌>>=◌, when}
use Rattle.definition.specs.Bits.{enc, bits_of, Bits, bytes_up_to}
use Rattle.laws.specs.Bits.{bits_drop, length_enc, dec_enc_lt}
use Rattle.std.specs.Prelude.{Option, Some, None}
use Rattle.definition.specs.Text.{Text, is_utf8}
use Rattle.definition.specs.Format.{whole, count, text}
use Rattle.bits.specs.declared.Span.{Span}

bytes_back : (n : ℕ) (s : List ℕ) → ((i : ℕ) → get_or s i 0 < 256) → n ≤ length s → bytes_up_to n (bits_of s) ≡ take n s
unfolding bytes_up_to bits_of
bytes_back zero s b h = refl
bytes_back (suc n) [] b h = absurd (omega arith)
bytes_back (suc n) (x ∷ s) b h =
    rw (take_at (enc 8 x) (bits_of s) 8 (length_enc 8 x), drop_at (enc 8 x) (bits_of s) 8 (length_enc 8 x), dec_enc_lt 8 x (b 0))
    (ap (λ (l : List ℕ). x ∷ l) (bytes_back n s (λ i. b (suc i)) (omega arith)))

pub span_short : (m : ℕ) (p : Place) (n : ℕ) → (p.bit ≡ 0 → m < p.byte + n) → span_in m p n ≡ no_span
unfolding span_in
span_short m p n h = short (eqb p.bit 0) refl
  where
    short : (t : Bool) → eqb p.bit 0 ≡ t → (if t && leb (p.byte + n) m then record { start = p.byte; len = n; next = record { byte = p.byte + n; bit = 0 } } else no_span) ≡ no_span
    short false e = refl
    short true e = rw (lt-leb (p.byte + n) m (h (eqb-true p.bit 0 e)))

pub span_fits : (m : ℕ) (p : Place) (n : ℕ) → p.bit ≡ 0 → p.byte + n ≤ m → span_in m p n ≡ record { start = p.byte; len = n; next = record { byte = p.byte + n; bit = 0 } }
unfolding span_in
span_fits m p n b h = rw (eq-eqb p.bit 0 b, le-leb (p.byte + n) m h)

module _ {s : List ℕ} {p b : Place} {n : ℕ} (h : Reads (whole count) s p n b) where
  abbrev text_from_lem : ℕ × Bits → Option (Text × Bits)
  text_from_lem x = if ltb (length x.1) (8 * x.0) then None else when (is_utf8 (bytes_up_to x.0 x.1)) (bytes_up_to x.0 x.1, drop (8 * x.0) x.1)

  text_on : (rest s p >>= text.get) ≡ (rest s b >>= λ l. text_from_lem (n, l))
  unfolding text
  text_on = chain text_from_lem h

  span_on : span_at s p ≡ span_of s (rest s b >>= λ l. Some (n, l))
  unfolding span_at
  span_on = ap (span_of s) h.reads

  -- no room for so many bytes
  module _ (w : b.bit % 8 ≡ 0) (k : b.bit ≡ 0 → length s < b.byte + n) where
    text_short : (rest s p >>= text.get) ≡ None
    text_short = text_on ∙ short (inside (length s) b) refl
      where
        short : (t : Bool) → inside (length s) b ≡ t → (rest s b >>= λ l. text_from_lem (n, l)) ≡ None
        short false e = rw (rest_out s b e)
        short true e =
            let f = room_fits (length s) b 0 e in
            let l = length_rest s (at b) in
            rw (rest_in s b f, lt-ltb (length (drop (at b) (bits_of s))) (8 * n) (omega (arith, f.bit, f.ends, k (omega (arith, f.bit)))))

    span_none : span_at s p ≡ no_span
    span_none = span_on ∙ short (inside (length s) b) refl
      where
        short : (t : Bool) → inside (length s) b ≡ t → span_of s (rest s b >>= λ l. Some (n, l)) ≡ no_span
        short false e = rw (rest_out s b e)
        short true e =
            let f = room_fits (length s) b 0 e in
            let l = length_rest s (at b) in
            rw (rest_in s b f, lt-ltb (length (drop (at b) (bits_of s))) (8 * n) (omega (arith, f.bit, f.ends, k (omega (arith, f.bit)))))

  -- room for them
  module _ (w : b.bit ≡ 0) (k : b.byte + n ≤ length s) where
    fits : Fits (length s) b (8 * n)
    fits = record { bit = omega arith; ends = omega arith }

    enough : ltb (length (drop (at b) (bits_of s))) (8 * n) ≡ false
    enough = le-ltb (length (drop (at b) (bits_of s))) (8 * n) (omega (arith, length_rest s (at b)))

    span_some : span_at s p ≡ record { start = b.byte; len = n; next = record { byte = b.byte + n; bit = 0 } }
    span_some =
        let e = length_rest s (at b) in
        let e' = length_rest s (at b + 8 * n) in
        let x : (8 * length s - length (drop (at b) (bits_of s))) / 8 ≡ b.byte = omega arith in
        let y : 8 * length s - length (drop (at b + 8 * n) (bits_of s)) ≡ 8 * (b.byte + n) = omega arith in
        let z : record { byte = b.byte + n; bit = 0 } ≡ place (8 * (b.byte + n)) = place_at_lem record { byte = b.byte + n; bit = 0 } (omega arith) (omega arith) in
        span_on ∙ rw (rest_in s b fits, enough, drop-drop, x, y) (rw z)

    text_some : ((i : ℕ) → get_or s i 0 < 256) → (rest s p >>= text.get) ≡ when (is_utf8 (take n (drop b.byte s))) (take n (drop b.byte s), drop (8 * (b.byte + n)) (bits_of s))
    text_some bs =
        let a : at b ≡ 8 * b.byte = omega arith in
        let y : at b + 8 * n ≡ 8 * (b.byte + n) = omega arith in
        let t : bytes_up_to n (drop (at b) (bits_of s)) ≡ take n (drop b.byte s) =
        rw (a, bits_drop b.byte s (omega arith)) (bytes_back n (drop b.byte s) (λ i. rw get_or-drop (bs (b.byte + i))) (omega (arith, length-drop b.byte s))) in
        text_on ∙ rw (rest_in s b fits, enough, t, drop-drop, y)

pub found : {s : List ℕ} {p b : Place} {n : ℕ} {x : Span} → ((i : ℕ) → get_or s i 0 < 256) → Reads (whole count) s p n b → b.bit % 8 ≡ 0 → x ≡ span_in (length s) b n → Spans s p x
found {s} {p} {b} {n} {x} bs h w ex = found_if (leb (b.byte + n) (length s)) (eqb b.bit 0) refl refl
  where
    short : (b.bit ≡ 0 → length s < b.byte + n) → Spans s p x
    short k =
        let e : x ≡ no_span = ex ∙ span_short (length s) b n k in
        let g : Refuses text s p = record { gives = text_short h w k } in
        record { is = e ∙ sym (span_none h w k); reads = λ u. read_nothing (take x.len (drop x.start s)) g (rw e (rest_past s)); refuses = λ u. g }

    found_if : (t o : Bool) → leb (b.byte + n) (length s) ≡ t → eqb b.bit 0 ≡ o → Spans s p x
    found_if false o et eo = short (λ z. leb-false (b.byte + n) (length s) et)
    found_if true false et eo = short (λ z. absurd (eqb-false b.bit 0 eo z))
    found_if true true et eo =
        let z = eqb-true b.bit 0 eo in
        let k = leb-true (b.byte + n) (length s) et in
        let e : x ≡ record { start = b.byte; len = n; next = record { byte = b.byte + n; bit = 0 } } = ex ∙ span_fits (length s) b n z k in
        let f : Fits (length s) record { byte = b.byte + n; bit = 0 } 0 = record { bit = omega arith; ends = omega arith } in
        let y : 8 * (b.byte + n) + 0 ≡ 8 * (b.byte + n) = omega arith in
        record {
          is = e ∙ sym (span_some h z k);
          reads = rw e (λ u. record { reads = text_some h z k bs ∙ rw (u, rest_in s record { byte = b.byte + n; bit = 0 } f, y) });
          refuses = rw e (λ u. record { gives = text_some h z k bs ∙ rw u });
        }
