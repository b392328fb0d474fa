-- Bits laid over others in a row, and one turn of the loop that writes. Assumes nothing.
use Rattle.std.specs.Prelude.{if◌then◌else◌}
use mathlib.Core.Path.{◌≡◌, refl, sym, ap, ◌∙◌}
use mathlib.Core.List.{List, ◌++◌, append_assoc, []}
use mathlib.Core.Bool.{Bool, true, false}
use Prim.Native.Nat.{ℕ, ◌+◌, ◌-◌, ◌*◌, ◌/◌, ◌%◌, ◌^◌, ◌≤◌, ◌<◌, min, suc}
use native.Mathlib.Nat.{mod-lt, add-zero, add_comm}
use native.Mathlib.Omega.{arith}
use lib.ListN.{length, take, drop, get_or, set, length-append, take-append-drop}
use lib.Seq.{drop-drop, length-take-le, set_split}
use lib.Pow.{pow_pos, shr-shr, shr_lt, high}
use Rattle.bits.specs.declared.Place.{Place}
use Rattle.bits.specs.Over.{over, over_mid, over_before, take_drop}
use Rattle.bits.specs.Steps.{Laid, Pads, view, padded, laid_step, said, view_in, view_out, length_before}
use Rattle.laws.specs.Buf.{◌▷◌, ▷-full}
use Rattle.bits.specs.Places.{past, place_at_lem, at, place, room, inside, room_fits}
use Rattle.definition.specs.Bits.{enc, bits_of, gap}
use Rattle.laws.specs.Bits.{enc_zeros, bits_append, enc_split, enc_low, length_enc, length_bits, length_part, bits_at, enc_high}
use Rattle.bits.proofs.Taking.{join_lt}
use Rattle.bits.proofs.Laws.{part_lt}

pub over_is : (n : ℕ) (f l : List ℕ) → over n f l ≡ take n l ++ (f ++ drop (n + length f) l)
unfolding over
over_is n f l = refl

-- a list in three parts
pub parts : (n k : ℕ) (l : List ℕ) → l ≡ take n l ++ (take k (drop n l) ++ drop (n + k) l)
parts n k l = sym (take-append-drop n l) ∙ ap (λ (x : List ℕ). take n l ++ x) (sym (take-append-drop k (drop n l)) ∙ rw drop-drop)

pub over_none : (n : ℕ) (l : List ℕ) → over n [] l ≡ l
unfolding over
over_none n l = rw add-zero (take-append-drop n l)

pub over_next : (n : ℕ) (f g l : List ℕ) → n + length f + length g ≤ length l → over (n + length f) g (over n f l) ≡ over n (f ++ g) l
over_next n f g l h =
    let a = take n l in
    let ea : length a ≡ n = length-take-le n l (omega arith) in
    let m = n + length f in
    let b = take (length f) (drop n l) in
    let eb : length b ≡ length f = length_part n (length f) l (omega arith) in
    let c = take (length g) (drop m l) in
    let ec : length c ≡ length g = length_part m (length g) l (omega arith) in
    let e = drop (m + length g) l in
    let all : l ≡ a ++ (b ++ (c ++ e)) = parts n (length f) l ∙ ap (λ (x : List ℕ). a ++ (b ++ x)) (sym (take-append-drop (length g) (drop m l)) ∙ rw drop-drop) in
    let one : over n f l ≡ (a ++ f) ++ (c ++ e) = ap (over n f) all ∙ over_mid n a b (c ++ e) f ea eb ∙ sym (append_assoc a f (c ++ e)) in
    let two : over m g (over n f l) ≡ (a ++ f) ++ (g ++ e) = ap (over m g) one ∙ over_mid m (a ++ f) c e g (length-append a f ∙ omega arith) ec in
    let both : over n (f ++ g) l ≡ a ++ ((f ++ g) ++ e) =
    ap (over n (f ++ g)) (all ∙ ap (λ (x : List ℕ). a ++ x) (sym (append_assoc b c e)))
    ∙ over_mid n a (b ++ c) e (f ++ g) ea (length-append b c ∙ (omega (arith, length-append f g))) in
    two ∙ append_assoc a f (g ++ e) ∙ ap (λ (x : List ℕ). a ++ x) (sym (append_assoc f g e)) ∙ sym both

pub over_prev : (n m : ℕ) (f g l : List ℕ) → m ≡ n + length g → n + length g + length f ≤ length l → over n g (over m f l) ≡ over n (g ++ f) l
over_prev n m f g l em h =
    let a = take n l in
    let ea : length a ≡ n = length-take-le n l (omega arith) in
    let k = n + length g in
    let b = take (length g) (drop n l) in
    let eb : length b ≡ length g = length_part n (length g) l (omega arith) in
    let c = take (length f) (drop k l) in
    let ec : length c ≡ length f = length_part k (length f) l (omega arith) in
    let e = drop (k + length f) l in
    let all : l ≡ a ++ (b ++ (c ++ e)) = parts n (length g) l ∙ ap (λ (x : List ℕ). a ++ (b ++ x)) (sym (take-append-drop (length f) (drop k l)) ∙ rw drop-drop) in
    let one : over m f l ≡ a ++ (b ++ (f ++ e)) =
    ap (over m f) (all ∙ sym (append_assoc a b (c ++ e))) ∙ over_mid m (a ++ b) c e f (length-append a b ∙ omega arith) ec ∙ append_assoc a b (f ++ e) in
    let two : over n g (over m f l) ≡ a ++ (g ++ (f ++ e)) = ap (over n g) one ∙ over_mid n a b (f ++ e) g ea eb in
    let both : over n (g ++ f) l ≡ a ++ ((g ++ f) ++ e) =
    ap (over n (g ++ f)) (all ∙ ap (λ (x : List ℕ). a ++ x) (sym (append_assoc b c e)))
    ∙ over_mid n a (b ++ c) e (g ++ f) ea (length-append b c ∙ (omega (arith, length-append g f))) in
    two ∙ ap (λ (x : List ℕ). a ++ x) (sym (append_assoc g f e)) ∙ sym both

pub over_kept : (p k n : ℕ) (f l : List ℕ) → p + k ≤ n → n ≤ length l → take k (drop p (over n f l)) ≡ take k (drop p l)
over_kept p k n f l h le = take_drop p k (over n f l) ∙ ap (drop p) (over_before (p + k) n f l h le) ∙ sym (take_drop p k l)

-- the bits of s with the byte at q changed
bits_set : (s : List ℕ) (q x : ℕ) → q < length s → bits_of (set s q x) ≡ bits_of (take q s) ++ (enc 8 x ++ bits_of (drop (suc q) s))
unfolding bits_of
bits_set s q x h = ap bits_of (set_split s q x h) ∙ bits_append (take q s) _

-- k bits of one byte are changed
bits_changed : (d : List ℕ) (q r k m : ℕ) {x b' : ℕ} → q < length d → r + (k + m) ≡ 8 → x < 2 ^ k
    → b' ≡ (get_or d q 0 / 2 ^ (m + k) * 2 ^ k + x) * 2 ^ m + get_or d q 0 % 2 ^ m → bits_of (set d q b') ≡ over (8 * q + r) (enc k x) (bits_of d)
bits_changed d q r k m {x} {b'} h z hx eb =
    let b = get_or d q 0 in
    let hi = b / 2 ^ (m + k) in
    let A = bits_of (take q d) in
    let B = bits_of (drop (suc q) d) in
    let n : length A ≡ 8 * q = length_bits (take q d) ∙ ap (λ (j : ℕ). 8 * j) (length-take-le q d (omega arith)) in
    let e8 : 8 ≡ r + (k + m) = omega arith in
    let lt : b % 2 ^ m < 2 ^ m = mod-lt b (pow_pos m) in
    let old : enc 8 b ≡ enc r hi ++ (enc k (b / 2 ^ m) ++ enc m b) = rw (e8, enc_split r (k + m) b, enc_split k m b, add_comm k m) in
    let new1 : enc (k + m) b' ≡ enc k x ++ enc m b = rw (eb, enc_split k m, high _ m lt, enc_high, enc_high, enc_low) in
    let new0 : b' / 2 ^ (m + k) ≡ hi = rw (← shr-shr b' m k, eb, high _ m lt, high hi k hx) in
    let new : enc 8 b' ≡ enc r hi ++ (enc k x ++ enc m b) = rw (e8, enc_split r (k + m) b', new1, add_comm k m, new0) in
    let was : bits_of d ≡ (A ++ enc r hi) ++ (enc k (b / 2 ^ m) ++ (enc m b ++ B)) = bits_at d q h ∙ rw old (simp append_assoc) in
    bits_set d q b' h ∙ rw new (simp append_assoc)
    ∙ sym (append_assoc A (enc r hi) _)
    ∙ sym (over_mid (8 * q + r) (A ++ enc r hi) (enc k (b / 2 ^ m)) (enc m b ++ B) (enc k x) (length-append A (enc r hi) ∙ omega (arith, length_enc r hi)) (length_enc k _ ∙ sym (length_enc k x)))
    ∙ ap (over (8 * q + r) (enc k x)) (sym was)

-- two neighbours change places: y is laid over the first bits, x behind it
pub rotated_over : (n m : ℕ) (a x y z : List ℕ) → length a ≡ n → n + length y ≡ m → over n y (over m x (a ++ (x ++ (y ++ z)))) ≡ a ++ (y ++ (x ++ z))
rotated_over n m a x y z ea em =
    let l = a ++ (x ++ (y ++ z)) in
    let ll : length l ≡ length a + (length x + (length y + length z)) = simp length-append in
    over_prev n m x y l (sym em) (omega arith) ∙ ap (λ (t : List ℕ). over n (y ++ x) (a ++ t)) (sym (append_assoc x y z))
    ∙ over_mid n a (x ++ y) z (y ++ x) ea (length-append x y ∙ (omega (arith, length-append y x))) ∙ ap (λ (t : List ℕ). a ++ t) (append_assoc y x z)

-- the byte that is written: the r first bits of old, then those of x
module _ (old r k x : ℕ) (e : r + k ≤ 8) (ho : old < 256) (hx : x < 2 ^ k) where
  pub top_lt : old / 2 ^ (8 - r) * 2 ^ k + x < 2 ^ (r + k)
  top_lt =
      let e1 : r + (8 - r) ≡ 8 = omega arith in
      let ho' : old < 2 ^ (r + (8 - r)) = rw e1 ho in
      join_lt r k (old / 2 ^ (8 - r)) x (shr_lt r (8 - r) ho') hx

  pub mixed : (old / 2 ^ (8 - r) * 2 ^ k + x) * 2 ^ (8 - r - k) + old % 2 ^ (8 - r - k) < 256
  mixed =
      let e2 : r + k + (8 - r - k) ≡ 8 = omega arith in
      let all = join_lt (r + k) (8 - r - k) _ (old % 2 ^ (8 - r - k)) top_lt (mod-lt old (pow_pos (8 - r - k))) in
      rw e2 at all

-- one turn of the loop of `overwrite`
pub overwrite_more : (d0 d : List ℕ) (at w q r left v : ℕ) {k x b b' : ℕ} → length d ≡ length d0 → bits_of d ≡ over at (enc (w - left) (v / 2 ^ left)) (bits_of d0)
    → left ≤ w → 8 * q + r + left ≡ at + w → r < 8 → at + w ≤ 8 * length d0 → 0 < left
    → k ≡ min left (8 - r) → x ≡ v / 2 ^ (left - k) % 2 ^ k → b ≡ get_or d q 0
    → b' ≡ (b / 2 ^ (8 - r) * 2 ^ k + x) * 2 ^ (8 - r - k) + b % 2 ^ (8 - r - k)
    → bits_of (set d q b') ≡ over at (enc (w - (left - k)) (v / 2 ^ (left - k))) (bits_of d0)
overwrite_more d0 d at w q r left v {k} {x} {b} {b'} ln g l e lr h z ek ex eb ec =
    let m = 8 - r - k in
    let u = v / 2 ^ (left - k) in
    let f = enc (w - left) (v / 2 ^ left) in
    let lf = length_enc (w - left) (v / 2 ^ left) in
    let lx = length_enc k x in
    let mk : 8 - r ≡ m + k = omega arith in
    let c' : b' ≡ (get_or d q 0 / 2 ^ (m + k) * 2 ^ k + x) * 2 ^ m + get_or d q 0 % 2 ^ m = rw (← mk, ← eb) ec in
    let pl : 8 * q + r ≡ at + length f = omega arith in
    let ll : left - k + k ≡ left = omega arith in
    let nk : w - (left - k) ≡ w - left + k = omega arith in
    let fx : f ++ enc k x ≡ enc (w - (left - k)) u = rw (nk, enc_split (w - left) k u, shr-shr v (left - k) k, ll, ex, enc_low) in
    bits_changed d q r k m (omega arith) (omega arith) (part_lt _ k ex) c'
    ∙ rw (pl, g) (over_next at f (enc k x) (bits_of d0) (omega (arith, length_bits d0)))
    ∙ ap (λ (y : List ℕ). over at y (bits_of d0)) fx

pub enc_zero : (x : ℕ) → enc 0 x ≡ []
unfolding enc
enc_zero x = refl

-- bits for which there is no room
pub laid_short : (d : List ℕ) (p : Place) (f : List ℕ) → room (length d) p (length f) ≡ false → Laid d p f d past
laid_short d p f e = record { same = refl; bits = rw e; next = rw e }

pub overwrite_short : (d : List ℕ) (p : Place) (w v : ℕ) → room (length d) p w ≡ false → Laid d p (enc w v) d past
overwrite_short d p w v h = laid_short d p (enc w v) (rw length_enc h)

pub overwrite_done : (d d' : List ℕ) (p : Place) (w v : ℕ) {q r : ℕ} → length d' ≡ length d → room (length d) p w ≡ true → r < 8 → 8 * q + r ≡ at p + w
    → bits_of d' ≡ over (at p) (enc w v) (bits_of d) → Laid d p (enc w v) d' record { byte = q; bit = r }
overwrite_done d d' p w v {q} {r} l h hr e g =
    let t : room (length d) p (length (enc w v)) ≡ true = rw length_enc h in
    let n : record { byte = q; bit = r } ≡ place (at p + w) = place_at_lem record { byte = q; bit = r } hr e in
    record { same = l; bits = rw t g; next = rw (t, length_enc, n) }

-- zero bits that were laid up to a whole byte
pub pads : {d : List ℕ} {p : Place} (k : ℕ) {d' : List ℕ} {q : Place} → k ≡ (8 - p.bit) % 8 → Laid d p (enc k 0) d' q → Pads d p d' q
pads {d} {p} k {d'} {q} ek h = record { step = said (laid_step h) padded (pad_if (inside (length d) p) refl); bit = rw h.next (bit_if (room (length d) p (length (enc k 0))) refl) }
  where
    pad_if : (t : Bool) → inside (length d) p ≡ t → view d p ▷ enc k 0 ≡ padded (view d p)
    pad_if false e = rw (view_out d p e, ▷-full, ▷-full)
    pad_if true e =
        let f = room_fits (length d) p 0 e in
        let n = length_before d (at p) (omega (arith, f.ends)) in
        let g : gap (at p) ≡ k = omega (arith, f.bit) in
        rw (view_in d p f, n, g, enc_zeros)

    bit_if : (t : Bool) → room (length d) p (length (enc k 0)) ≡ t → (if t then place (at p + length (enc k 0)) else past).bit % 8 ≡ 0
    bit_if false e = refl
    bit_if true e = let f = room_fits (length d) p _ e in rw length_enc (omega (arith, f.bit))
