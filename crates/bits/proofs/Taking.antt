-- A number that is read from some bits in a row: more bits behind it, a part of it, and one turn of the loop that reads. Assumes nothing.
use mathlib.Core.Path.{◌≡◌, refl, sym, ap, ◌∙◌}
use mathlib.Core.List.{List, ◌++◌}
use mathlib.Core.Bool.{true}
use Prim.Native.Nat.{ℕ, ◌+◌, ◌-◌, ◌*◌, ◌/◌, ◌%◌, ◌^◌, ◌≤◌, ◌<◌, min}
use native.Mathlib.Nat.{mod-lt}
use native.Mathlib.Omega.{arith}
use lib.ListN.{length, take, drop, get_or}
use lib.Seq.{take-add, drop-drop}
use lib.Pow.{pow_pos, pow_mono, high, pow-add}
use borrow.Author.Tests.{eq-eqb, ne_eqb}
use Rattle.bits.specs.declared.Place.{Place}
use Rattle.bits.specs.declared.Field.{Field}
use Rattle.bits.specs.Over.{part_before}
use Rattle.bits.specs.Reads.{taken_at, take_whole, pad_at, pad_told}
use Rattle.bits.specs.Places.{past, place_at_lem, at, place, room, room_fits}
use Rattle.definition.specs.Bits.{enc, dec, bits_of}
use Rattle.laws.specs.Bits.{enc_split, enc_low, enc_high, take_enc, drop_enc, bits_within, dec_enc_lt}
use Rattle.bits.specs.Window.{Read}
use lib.Arith.{digits_lt}

pub enc_join : (n k a b : ℕ) → b < 2 ^ k → enc (n + k) (a * 2 ^ k + b) ≡ enc n a ++ enc k b
enc_join n k a b h = rw (enc_split, high a k h, enc_high)

pub join_lt : (n k a b : ℕ) → a < 2 ^ n → b < 2 ^ k → a * 2 ^ k + b < 2 ^ (n + k)
join_lt n k a b ha hb = rw (pow-add 2 n k) (digits_lt ha hb)

pub read_none : (s : List ℕ) (at : ℕ) → Read s at 0 0
unfolding enc
read_none s at = record { are = refl; small = omega arith }

pub read_more : (s : List ℕ) (at n acc q r k m : ℕ) → Read s at n acc → at + n ≡ 8 * q + r → q < length s → r + (k + m) ≡ 8
    → Read s at (n + k) (acc * 2 ^ k + get_or s q 0 / 2 ^ m % 2 ^ k)
read_more s at n acc q r k m g e h z =
    let lo = get_or s q 0 / 2 ^ m in
    let lt : lo % 2 ^ k < 2 ^ k = mod-lt lo (pow_pos k) in
    let mm : 8 - (r + k) ≡ m = omega arith in
    let w : take k (drop (8 * q + r) (bits_of s)) ≡ enc k (get_or s q 0 / 2 ^ m) = rw mm at (bits_within s q r k h (omega arith)) in
    record {
      are = rw (take-add n k (drop at (bits_of s)), drop-drop n at (bits_of s), e, w, g.are, enc_join n k acc (lo % 2 ^ k) lt, enc_low);
      small = join_lt n k acc (lo % 2 ^ k) g.small lt;
    }

pub read_all : (s : List ℕ) (at w acc : ℕ) → Read s at w acc → dec (take w (drop at (bits_of s))) ≡ acc
read_all s at w acc g = ap dec g.are ∙ dec_enc_lt w acc g.small

-- two numbers, one behind the other
pub read_join : (s : List ℕ) (at n k : ℕ) {a b : ℕ} → Read s at n a → Read s (at + n) k b → Read s at (n + k) (a * 2 ^ k + b)
read_join s at n k {a} {b} g h =
    record {
      are = rw (take-add n k (drop at (bits_of s)), drop-drop n at (bits_of s), g.are, h.are, enc_join n k a b h.small);
      small = join_lt n k a b g.small h.small;
    }

-- one byte
pub read_byte : (s : List ℕ) (q : ℕ) → q < length s → get_or s q 0 < 256 → Read s (8 * q) 8 (get_or s q 0)
read_byte s q h b =
    let z : 8 * q + 0 ≡ 8 * q = omega arith in
    let o : get_or s q 0 / 2 ^ 0 ≡ get_or s q 0 = omega arith in
    record { are = rw (z, o) at (bits_within s q 0 8 h (omega arith)); small = b }

-- five bytes
pub read_five : (s : List ℕ) (q : ℕ) → q + 5 ≤ length s → ((i : ℕ) → get_or s i 0 < 256)
    → Read s (8 * q) 40 ((((get_or s q 0 * 2 ^ 8 + get_or s (q + 1) 0) * 2 ^ 8 + get_or s (q + 2) 0) * 2 ^ 8 + get_or s (q + 3) 0) * 2 ^ 8 + get_or s (q + 4) 0)
read_five s q h b =
    let one : (k : ℕ) → k < 5 → Read s (8 * q + 8 * k) 8 (get_or s (q + k) 0) =
    λ k l. let e : 8 * (q + k) ≡ 8 * q + 8 * k = omega arith in rw (← e) (read_byte s (q + k) (omega arith) (b (q + k))) in
    let z : q + 0 ≡ q = omega arith in
    let y : 8 * q + 8 * 0 ≡ 8 * q = omega arith in
    let first : Read s (8 * q) 8 (get_or s q 0) = rw (z, y) at (one 0 (omega arith)) in
    read_join s (8 * q) 32 8 (read_join s (8 * q) 24 8 (read_join s (8 * q) 16 8 (read_join s (8 * q) 8 8 first (one 1 (omega arith))) (one 2 (omega arith))) (one 3 (omega arith))) (one 4 (omega arith))

-- the w bits behind the first r, above the m last
pub read_part : (s : List ℕ) (at r w m v : ℕ) → Read s at (r + (w + m)) v → Read s (at + r) w (v / 2 ^ m % 2 ^ w)
read_part s at r w m v g =
    let e : take w (drop r (drop at (bits_of s))) ≡ enc w (v / 2 ^ m) =
    part_before r w (r + (w + m)) (drop at (bits_of s)) (omega arith) ∙ rw (g.are, drop_enc r (w + m) v, take_enc w m v) in
    record { are = rw (drop-drop r at (bits_of s)) at e ∙ sym (enc_low w (v / 2 ^ m)); small = mod-lt (v / 2 ^ m) (pow_pos w) }

-- one turn of the loop of `take`
pub read_turn : {s : List ℕ} (at w q r left : ℕ) {acc k b x acc' : ℕ} → Read s at (w - left) acc → 8 * q + r + left ≡ at + w → r < 8 → left ≤ w → at + w ≤ 8 * length s → 0 < left
    → k ≡ min left (8 - r) → b ≡ get_or s q 0 → x ≡ b / 2 ^ (8 - r - k) % 2 ^ k → acc' ≡ acc * 2 ^ k + x → Read s at (w - (left - k)) acc'
read_turn {s} at w q r left {acc} {k} {b} {x} {acc'} g e lr l h z ek eb ex ea =
    let n : w - (left - k) ≡ w - left + k = omega arith in
    rw (n, ea, ex, eb) (read_more s at (w - left) acc q r k (8 - r - k) g (omega arith) (omega arith) (omega arith))

pub join_fits : (n k : ℕ) {a b : ℕ} → a < 2 ^ n → b < 2 ^ k → n + k ≤ 64 → a * 2 ^ k + b < 2 ^ 64
join_fits n k {a} {b} ha hb h = omega (arith, join_lt n k a b ha hb, pow_mono {i = n + k} {j = 64} h)

-- the whole field has been read
pub take_done : (s : List ℕ) (p : Place) (w : ℕ) {q r acc : ℕ} → room (length s) p w ≡ true → r < 8 → 8 * q + r ≡ at p + w → Read s (at p) w acc
    → ◌≡◌ {A = Field ℕ Place} record { value = acc; next = record { byte = q; bit = r } } (taken_at s p w)
take_done s p w {q} {r} {acc} h hr e g =
    let n : record { byte = q; bit = r } ≡ place (at p + w) = place_at_lem record { byte = q; bit = r } hr e in
    rw (take_whole s p w (room_fits (length s) p w h), read_all s (at p) w acc g, n)

-- the bits up to a whole byte: zeros, and others
pub pad_yes : (s : List ℕ) (p : Place) (w : ℕ) {x : Field ℕ Place} → w ≡ (8 - p.bit) % 8 → x ≡ taken_at s p w → x.value ≡ 0 → x.next ≡ pad_at s p
pad_yes s p w {x} ew ex e = sym (pad_told s p (ex ∙ ap (taken_at s p) ew) ∙ rw (eq-eqb x.value 0 e))

pub pad_no : (s : List ℕ) (p : Place) (w : ℕ) {x : Field ℕ Place} → w ≡ (8 - p.bit) % 8 → x ≡ taken_at s p w → (x.value ≡ 0 → ⊥) → past ≡ pad_at s p
pad_no s p w {x} ew ex e = sym (pad_told s p (ex ∙ ap (taken_at s p) ew) ∙ rw (ne_eqb x.value 0 e))
