-- Laws of the definition's bits: those of a number and of bytes, a field in two parts, the bits around one byte, and that what is put is taken back.
-- Assumes nothing.
use Rattle.std.specs.Prelude.{◌≡◌, refl, List, [], ◌∷◌, ◌++◌, ℕ, zero, suc, ◌+◌, ◌-◌, ◌*◌, ◌/◌, ◌%◌, ◌^◌, ◌≤◌, ◌<◌, length, take, drop, get_or, replicate}
use Rattle.std.proofs.Common.{sym, ap, ◌∙◌, append_assoc, append-nil, zero-add, suc-add, add_comm, mod-lt, mod-eq_of_lt, add-one, one-add, arith, length-append, length-drop, take-append-drop, drop_of_length-le, take_at, drop_at, drop-drop, length-take-le, pow-add, shr-shr}
use Rattle.std.proofs.Math.Nat.{mod-one, mul-add-mod_self_right, zero-div}
use Rattle.std.proofs.Math.Seq.{split_at, drop-append-add}
use Rattle.std.proofs.lemmas.List.{take-append-le, drop-append-le}
use Rattle.std.proofs.lemmas.Nat.{mod-pow-add}
use Rattle.std.proofs.Math.Pow.{field, high, mod-mod-pow}
use Rattle.std.proofs.Math.Arith.{digits_lt}
use Rattle.definition.specs.Bits.{Bits, enc, dec, bits_of, bytes_up_to, bytes_of}
use Rattle.laws.specs.Each.{Each, empty, next, each_append, each_take, each_drop}

-- bits are 0 and 1, bytes are below 256
abbrev pub Binary : Bits → Type 0
Binary l = Each (λ b. b < 2) l

abbrev pub Bytes : List ℕ → Type 0
Bytes s = Each (λ b. b < 256) s

pub bytes_of_lem : (s : List ℕ) → ((i : ℕ) → get_or s i 0 < 256) → Bytes s
bytes_of_lem [] h = empty
bytes_of_lem (b ∷ s) h = next (h 0) (bytes_of_lem s (λ i. h (suc i)))

-- ---- the bits of a number

pub length_enc : (w v : ℕ) → length (enc w v) ≡ w
unfolding enc
length_enc zero v = refl
length_enc (suc w) v = ap suc (length_enc w v)

-- a field in two parts
pub enc_split : (a b v : ℕ) → enc (a + b) v ≡ enc a (v / 2 ^ b) ++ enc b v
unfolding enc
enc_split zero b v = rw zero-add
enc_split (suc a) b v = rw (suc-add, shr-shr, enc_split a b v, add_comm b a)

-- only the w low bits count
pub enc_mod : (w k v : ℕ) → enc w (v % 2 ^ (k + w)) ≡ enc w v
unfolding enc
enc_mod zero k v = refl
enc_mod (suc w) k v =
    let e : k + suc w ≡ suc k + w = omega arith in
    let f : v % 2 ^ (suc k + w) / 2 ^ w % 2 ≡ v / 2 ^ w % 2 =
    rw (field v (suc k) w, ← add-one k) (mod-mod-pow (v / 2 ^ w) k 1) in
    rw e (rw (f, enc_mod w (suc k) v))

pub enc_low : (w v : ℕ) → enc w (v % 2 ^ w) ≡ enc w v
enc_low w v = ap (λ (n : ℕ). enc w (v % 2 ^ n)) (sym (zero-add w)) ∙ enc_mod w 0 v

pub enc_suc : (w v : ℕ) → enc (suc w) v ≡ (v / 2 ^ w % 2) ∷ enc w v
unfolding enc
enc_suc w v = refl

pub dec_cons : (b : ℕ) (l : List ℕ) → dec (b ∷ l) ≡ b * 2 ^ length l + dec l
unfolding dec
dec_cons b l = refl

dec_enc_step : (w v : ℕ) → dec (enc w v) ≡ v % 2 ^ w → dec (enc (suc w) v) ≡ v % 2 ^ suc w
dec_enc_step w v ih = rw (enc_suc, dec_cons, length_enc, ih, ← one-add w) (sym (mod-pow-add v 1 w))

pub dec_enc : (w v : ℕ) → dec (enc w v) ≡ v % 2 ^ w
unfolding enc dec
dec_enc zero v = sym (mod-one v)
dec_enc (suc w) v = dec_enc_step w v (dec_enc w v)

pub dec_enc_lt : (w v : ℕ) → v < 2 ^ w → dec (enc w v) ≡ v
dec_enc_lt w v h = dec_enc w v ∙ mod-eq_of_lt h

pub take_enc : (a b v : ℕ) → take a (enc (a + b) v) ≡ enc a (v / 2 ^ b)
take_enc a b v = rw enc_split (take_at (enc a (v / 2 ^ b)) (enc b v) a (length_enc a (v / 2 ^ b)))

pub drop_enc : (a b v : ℕ) → drop a (enc (a + b) v) ≡ enc b v
drop_enc a b v = rw enc_split (drop_at (enc a (v / 2 ^ b)) (enc b v) a (length_enc a (v / 2 ^ b)))

-- what stands above the k low bits does not count
pub enc_high : (k a b : ℕ) → enc k (a * 2 ^ k + b) ≡ enc k b
enc_high k a b = sym (enc_low k (a * 2 ^ k + b)) ∙ ap (enc k) (mul-add-mod_self_right a (2 ^ k) b) ∙ enc_low k b

-- zeros
pub enc_zeros : (w : ℕ) → enc w 0 ≡ replicate w 0
unfolding enc
enc_zeros zero = refl
enc_zeros (suc w) = rw (zero-div, enc_zeros w)

pub enc_binary : (w v : ℕ) → Binary (enc w v)
unfolding enc
enc_binary zero v = empty
enc_binary (suc w) v = next (mod-lt (v / 2 ^ w) (omega arith)) (enc_binary w v)

-- bits make a number that fits, and are its bits
pub dec_lt : {l : Bits} → Binary l → dec l < 2 ^ length l
unfolding dec
dec_lt empty = omega arith
dec_lt (next {l = l} h f) = rw (← one-add (length l), pow-add) (digits_lt h (dec_lt f))

enc_dec_step : (b : ℕ) (l : Bits) → b < 2 → dec l < 2 ^ length l → enc (length l) (dec l) ≡ l → enc (length (b ∷ l)) (dec (b ∷ l)) ≡ b ∷ l
enc_dec_step b l h lt ih = rw (dec_cons, enc_suc, high b (length l) lt, enc_high, ih, mod-eq_of_lt h)

pub enc_dec : {l : Bits} → Binary l → enc (length l) (dec l) ≡ l
unfolding enc
enc_dec empty = refl
enc_dec (next {x = b} {l = l} h f) = enc_dec_step b l h (dec_lt f) (enc_dec f)

-- the first w bits, as a number and back
pub take_lt : (w : ℕ) {l : Bits} → Binary l → w ≤ length l → dec (take w l) < 2 ^ w
take_lt w {l} h k = rw (length-take-le w l k) at (dec_lt (each_take w h))

pub enc_take : (w : ℕ) {l : Bits} → Binary l → w ≤ length l → enc w (dec (take w l)) ≡ take w l
enc_take w {l} h k = rw (length-take-le w l k) at (enc_dec (each_take w h))

-- ---- the bits of bytes

pub length_bits : (s : List ℕ) → length (bits_of s) ≡ 8 * length s
unfolding bits_of
length_bits [] = refl
length_bits (b ∷ s) = simp (length-append, length_enc, length_bits s) (omega arith)

pub bits_append : (s t : List ℕ) → bits_of (s ++ t) ≡ bits_of s ++ bits_of t
unfolding bits_of
bits_append [] t = refl
bits_append (b ∷ s) t = rw (bits_append s t, append_assoc)

pub bits_one : (x : ℕ) → bits_of (x ∷ []) ≡ enc 8 x
unfolding bits_of
bits_one x = append-nil (enc 8 x)

pub bits_binary : (s : List ℕ) → Binary (bits_of s)
unfolding bits_of
bits_binary [] = empty
bits_binary (b ∷ s) = each_append (enc_binary 8 b) (bits_binary s)

-- the bits of s around the byte at q
pub bits_at : (s : List ℕ) (q : ℕ) → q < length s → bits_of s ≡ bits_of (take q s) ++ (enc 8 (get_or s q 0) ++ bits_of (drop (suc q) s))
unfolding bits_of
bits_at s q h = ap bits_of (split_at s q 0 h) ∙ bits_append (take q s) _

-- k bits that stand in one byte
pub bits_within : (s : List ℕ) (q r k : ℕ) → q < length s → r + k ≤ 8
    → take k (drop (8 * q + r) (bits_of s)) ≡ enc k (get_or s q 0 / 2 ^ (8 - (r + k)))
bits_within s q r k h le =
    let b = get_or s q 0 in
    let m = 8 - (r + k) in
    let n : length (bits_of (take q s)) ≡ 8 * q = length_bits (take q s) ∙ ap (λ (k : ℕ). 8 * k) (length-take-le q s (omega arith)) in
    let l : length (enc 8 b) ≡ 8 = length_enc 8 b in
    let e : r + (k + m) ≡ 8 = omega arith in
    let d : drop r (enc 8 b) ≡ enc (k + m) b = ap (λ (k : ℕ). drop r (enc k b)) (sym e) ∙ drop_enc r (k + m) b in
    let le1 : r ≤ length (enc 8 b) = omega arith in
    let le2 : k ≤ length (enc (k + m) b) = omega (arith, length_enc (k + m) b) in
    rw (bits_at s q h, ← n, drop-append-add, drop-append-le r (enc 8 b) _ le1, d, take-append-le k (enc (k + m) b) _ le2) (take_enc k m b)

-- the bits of the first and of the last bytes
pub bits_take : (n : ℕ) (s : List ℕ) → n ≤ length s → take (8 * n) (bits_of s) ≡ bits_of (take n s)
bits_take n s h =
    let l : length (bits_of (take n s)) ≡ 8 * n = length_bits (take n s) ∙ ap (λ (k : ℕ). 8 * k) (length-take-le n s h) in
    ap (λ (t : List ℕ). take (8 * n) (bits_of t)) (sym (take-append-drop n s)) ∙ rw bits_append (take_at (bits_of (take n s)) (bits_of (drop n s)) (8 * n) l)

pub bits_drop : (n : ℕ) (s : List ℕ) → n ≤ length s → drop (8 * n) (bits_of s) ≡ bits_of (drop n s)
bits_drop n s h =
    let l : length (bits_of (take n s)) ≡ 8 * n = length_bits (take n s) ∙ ap (λ (k : ℕ). 8 * k) (length-take-le n s h) in
    ap (λ (t : List ℕ). drop (8 * n) (bits_of t)) (sym (take-append-drop n s)) ∙ rw bits_append (drop_at (bits_of (take n s)) (bits_of (drop n s)) (8 * n) l)

-- ---- bits that stand somewhere

pub length_part : (n k : ℕ) (l : List ℕ) → n + k ≤ length l → length (take k (drop n l)) ≡ k
length_part n k l h = length-take-le k (drop n l) (omega (arith, length-drop n l))

part_long : (s : List ℕ) (n w : ℕ) → n + w ≤ 8 * length s → w ≤ length (drop n (bits_of s))
part_long s n w h = omega (arith, length-drop n (bits_of s), length_bits s)

-- what is read and written again is the same
pub enc_read : (s : List ℕ) (n w : ℕ) → n + w ≤ 8 * length s → enc w (dec (take w (drop n (bits_of s)))) ≡ take w (drop n (bits_of s))
enc_read s n w h = enc_take w (each_drop n (bits_binary s)) (part_long s n w h)

-- they make a number that fits
pub dec_part : (s : List ℕ) (n w : ℕ) → n + w ≤ 8 * length s → dec (take w (drop n (bits_of s))) < 2 ^ w
dec_part s n w h = take_lt w (each_drop n (bits_binary s)) (part_long s n w h)

-- ---- the bytes of bits

pub length_bytes : (n : ℕ) (l : Bits) → length (bytes_up_to n l) ≡ n
unfolding bytes_up_to
length_bytes zero l = refl
length_bytes (suc n) l = ap suc (length_bytes n (drop 8 l))

bytes_suc : (n : ℕ) (l : Bits) → bytes_up_to (suc n) l ≡ dec (take 8 l) ∷ bytes_up_to n (drop 8 l)
unfolding bytes_up_to
bytes_suc n l = refl

-- bytes in front of other bits are taken back
pub bytes_bits : {s : List ℕ} (t : Bits) → Bytes s → bytes_up_to (length s) (bits_of s ++ t) ≡ s
unfolding bytes_up_to bits_of
bytes_bits t empty = refl
bytes_bits t (next {x = b} {l = s} h f) = step b s t h (bytes_bits t f)
  where
    step : (b : ℕ) (s : List ℕ) (t : Bits) → b < 256 → bytes_up_to (length s) (bits_of s ++ t) ≡ s
        → bytes_up_to (suc (length s)) (enc 8 b ++ bits_of s ++ t) ≡ b ∷ s
    step b s t h ih =
        rw (bytes_suc, append_assoc, take_at (enc 8 b) (bits_of s ++ t) 8 (length_enc 8 b), drop_at (enc 8 b) (bits_of s ++ t) 8 (length_enc 8 b))
        (rw (dec_enc_lt 8 b h, ih))

join : (a b x d l : Bits) → x ++ d ≡ b → a ++ b ≡ l → a ++ x ++ d ≡ l
join a b x d l p q = append_assoc a x d ∙ ap (λ (t : Bits). a ++ t) p ∙ q

-- bits are those of their bytes
pub bits_bytes : (n : ℕ) {l : Bits} → Binary l → 8 * n ≤ length l → bits_of (bytes_up_to n l) ++ drop (8 * n) l ≡ l
unfolding bytes_up_to bits_of
bits_bytes zero h k = refl
bits_bytes (suc n) {l} h k =
    let e : 8 * suc n ≡ 8 + 8 * n = omega arith in
    let ih : bits_of (bytes_up_to n (drop 8 l)) ++ drop (8 * suc n) l ≡ drop 8 l =
    rw (e, ← drop-drop (8 * n) 8 l) (bits_bytes n (each_drop 8 h) (rw length-drop (omega arith))) in
    join (enc 8 (dec (take 8 l))) (drop 8 l) (bits_of (bytes_up_to n (drop 8 l))) (drop (8 * suc n) l) l ih
    (rw (enc_take 8 h (omega arith)) (take-append-drop 8 l))

pub bytes_small : (n : ℕ) {l : Bits} → Binary l → 8 * n ≤ length l → Bytes (bytes_up_to n l)
unfolding bytes_up_to
bytes_small zero h k = empty
bytes_small (suc n) {l} h k = next (take_lt 8 h (omega arith)) (bytes_small n (each_drop 8 h) (rw length-drop (omega arith)))

pub whole_bits : {l : Bits} → Binary l → length l % 8 ≡ 0 → bits_of (bytes_of l) ≡ l
whole_bits {l} h k =
    let n = length l / 8 in
    let e : drop (8 * n) l ≡ [] = drop_of_length-le l {i = 8 * n} (omega arith) in
    sym (append-nil (bits_of (bytes_of l))) ∙ rw e at (bits_bytes n h (omega arith))

pub whole_bytes : {s : List ℕ} → Bytes s → bytes_of (bits_of s) ≡ s
whole_bytes {s} h =
    let e : length (bits_of s) / 8 ≡ length s = rw length_bits (omega arith) in
    rw (e, ← append-nil (bits_of s)) (bytes_bits [] h)
