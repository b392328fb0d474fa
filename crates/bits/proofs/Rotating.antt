-- Bytes that change places, a run of bits that moves up, and rotations in parts. Assumes nothing.
use mathlib.Core.Path.{◌≡◌, refl, sym, ap, ◌∙◌}
use mathlib.Core.List.{List, ◌++◌, append_assoc, reverse, reverse-append, reverse-reverse}
use mathlib.Core.Bool.{true}
use Prim.Native.Nat.{ℕ, ◌+◌, ◌-◌, ◌*◌, ◌≤◌, ◌<◌}
use native.Mathlib.Omega.{arith}
use lib.ListN.{length, take, drop, length-append, length-reverse, length-drop, take-append-drop}
use lib.Seq.{take-add, drop-drop, length-take-le, take_at, drop_at}
use Rattle.bits.specs.declared.Place.{Place}
use Rattle.bits.specs.declared.Field.{Field}
use borrow.Rule.Slice.PartMut.{put_mid, mid_of}
use Rattle.bits.specs.Over.{over}
use Rattle.bits.proofs.Overwriting.{over_none, over_kept, over_prev, parts, rotated_over}
use Rattle.bits.specs.Moves.{moved, rotated, ordered, Rotates, rotate_parts, order}
use Rattle.bits.specs.Steps.{Laid, laid_in}
use Rattle.bits.specs.Reads.{taken_at, take_whole}
use Rattle.bits.specs.Places.{at, Fits}
use Rattle.definition.specs.Bits.{enc, dec, bits_of, Bits}
use Rattle.laws.specs.Bits.{enc_read, bits_append, bits_take, bits_drop, length_enc, length_bits, length_part}

-- the bytes from a to e in reverse order
abbrev Reverses : ℕ → ℕ → List ℕ → List ℕ → Type 0
Reverses a e s s' = (p x z : List ℕ) → s ≡ p ++ (x ++ z) → length p ≡ a → a + length x ≡ e → s' ≡ p ++ (reverse x ++ z)

pub turned : (a e : ℕ) (s : List ℕ) {t : List ℕ} → t ≡ reverse (mid_of a (e - a) s) → Reverses a e s (put_mid a (e - a) s t)
turned a e s w p x z is lp lx =
    let k : e - a ≡ length x = omega arith in
    let front = take_at p (x ++ z) a lp in
    let rest = drop_at p (x ++ z) a lp in
    rw (w, is, k, front, rest, take_at x z (length x) refl, drop_at x z (length x) refl) refl

-- each part reversed, then both: they change places
pub turned_thrice : (a m e : ℕ) (s : List ℕ) {s1 s2 s3 : List ℕ} → a ≤ m → m ≤ e → e ≤ length s → Reverses a m s s1 → Reverses m e s1 s2 → Reverses a e s2 s3 → s3 ≡ rotated a m e s
turned_thrice a m e s {s1} {s2} {s3} h1 h2 h3 f g k =
    let p = take a s in
    let x = take (m - a) (drop a s) in
    let y = take (e - m) (drop m s) in
    let z = drop e s in
    let lp : length p ≡ a = length-take-le a s (omega arith) in
    let lx : a + length x ≡ m = omega (arith, length-take-le (m - a) (drop a s) (omega (arith, length-drop a s))) in
    let ly : m + length y ≡ e = omega (arith, length-take-le (e - m) (drop m s) (omega (arith, length-drop m s))) in
    let am : a + (m - a) ≡ m = omega arith in
    let me : m + (e - m) ≡ e = omega arith in
    let back : drop m s ≡ y ++ z = sym (take-append-drop (e - m) (drop m s)) ∙ rw (drop-drop (e - m) m s, me) in
    let both : drop a s ≡ x ++ drop m s = sym (take-append-drop (m - a) (drop a s)) ∙ rw (drop-drop (m - a) a s, am) in
    let w0 : s ≡ p ++ (x ++ (y ++ z)) = sym (take-append-drop a s) ∙ ap (λ (t : List ℕ). p ++ t) (both ∙ ap (λ (t : List ℕ). x ++ t) back) in
    let lr = length-reverse x in
    let w1 : s1 ≡ (p ++ reverse x) ++ (y ++ z) = f p x (y ++ z) w0 lp lx ∙ sym (append_assoc p (reverse x) (y ++ z)) in
    let w2 : s2 ≡ (p ++ reverse x) ++ (reverse y ++ z) = g (p ++ reverse x) y z w1 (length-append p (reverse x) ∙ omega arith) ly in
    let w3 = k p (reverse x ++ reverse y) z (w2 ∙ simp append_assoc) lp (omega (arith, length-append (reverse x) (reverse y), length-reverse y)) in
    w3 ∙ rw (reverse-append (reverse x) (reverse y), reverse-reverse y, reverse-reverse x) (simp append_assoc)

-- of whole bytes: their bits
pub bytes_rotated : (a m e : ℕ) (s : List ℕ) → a ≤ m → m ≤ e → e ≤ length s → bits_of (rotated a m e s) ≡ rotated (8 * a) (8 * m) (8 * e) (bits_of s)
bytes_rotated a m e s h1 h2 h3 =
    let x : 8 * e - 8 * m ≡ 8 * (e - m) = omega arith in
    let y : 8 * m - 8 * a ≡ 8 * (m - a) = omega arith in
    let lm = length-drop m s in
    let la = length-drop a s in
    rw (bits_append, bits_append, bits_append, x, y, bits_drop m s (omega arith), bits_drop a s (omega arith), bits_drop e s h3, bits_take a s (omega arith))
    (rw (bits_take (e - m) (drop m s) (omega arith), bits_take (m - a) (drop a s) (omega arith)))

-- n bits more, from the end
move_more : (d0 d : List ℕ) (e k p n q : ℕ) {v : ℕ} {b : Bits} → length d ≡ length d0 → bits_of d ≡ moved p (p + k) (e - p) (bits_of d0) → e + k ≤ 8 * length d0 → p ≤ e → q + n ≡ p
    → v ≡ dec (take n (drop q (bits_of d))) → b ≡ over (q + k) (enc n v) (bits_of d) → b ≡ moved q (q + k) (e - q) (bits_of d0)
move_more d0 d e k p n q {v} {b} ln g cap le qn ev eb =
    let l = bits_of d0 in
    let nb = length_bits d0 in
    let m = e - p in
    let x = take m (drop p l) in
    let nx : length x ≡ m = length_part p m l (omega arith) in
    let y = take n (drop q l) in
    let ny : length y ≡ n = length_part q n l (omega arith) in
    let rd : enc n v ≡ take n (drop q (bits_of d)) = rw ev (enc_read d q n (omega arith)) in
    let sm : take n (drop q (bits_of d)) ≡ y = rw g (over_kept q n (p + k) x l (omega arith) (omega arith)) in
    let mm : e - q ≡ n + m = omega arith in
    let xy : y ++ x ≡ take (e - q) (drop q l) = rw (mm, take-add n m (drop q l), drop-drop n q l, qn) in
    eb ∙ rw (rd, sm, g) (over_prev (q + k) (p + k) x y l (omega arith) (omega arith)) ∙ ap (λ (t : Bits). over (q + k) t l) xy

-- the last k bits before e are read, the others move up, and the k bits are laid in front
rotate_front : (d : List ℕ) (a e k : ℕ) {v : ℕ} {b1 b2 : Bits} → a + k ≤ e → e ≤ 8 * length d → v ≡ dec (take k (drop (e - k) (bits_of d)))
    → b1 ≡ moved a (a + k) (e - k - a) (bits_of d) → b2 ≡ over a (enc k v) b1 → b2 ≡ rotated a (e - k) e (bits_of d)
rotate_front d a e k {v} {b1} {b2} h le ev e1 e2 =
    let l = bits_of d in
    let nb = length_bits d in
    let p = take a l in
    let x = take (e - k - a) (drop a l) in
    let y = take k (drop (e - k) l) in
    let z = drop e l in
    let lp : length p ≡ a = length-take-le a l (omega arith) in
    let lx : length x ≡ e - k - a = length_part a (e - k - a) l (omega arith) in
    let ly : length y ≡ k = length_part (e - k) k l (omega arith) in
    let e3 : a + (e - k - a) ≡ e - k = omega arith in
    let e4 : e - k + k ≡ e = omega arith in
    let tl : drop (e - k) l ≡ y ++ z = sym (take-append-drop k (drop (e - k) l)) ∙ ap (λ (t : Bits). y ++ t) (drop-drop k (e - k) l ∙ ap (λ (n : ℕ). drop n l) e4) in
    let all : l ≡ p ++ (x ++ (y ++ z)) = parts a (e - k - a) l ∙ ap (λ (t : Bits). p ++ (x ++ t)) (ap (λ (n : ℕ). drop n l) e3 ∙ tl) in
    let rd : enc k v ≡ y = rw ev (enc_read d (e - k) k (omega arith)) in
    let sp : rotated a (e - k) e l ≡ p ++ (y ++ (x ++ z)) = ap (rotated a (e - k) e) all ∙ rotate_parts a (e - k) e p x y z lp (omega arith) (omega arith) in
    e2 ∙ rw (rd, e1) (ap (λ (t : Bits). over a y (over (a + k) x t)) all ∙ rotated_over a (a + k) p x y z lp (omega arith)) ∙ sym sp

pub move_none : (p q : ℕ) (l : Bits) → l ≡ moved p q (p - p) l
move_none p q l =
    let z : p - p ≡ 0 = omega arith in
    rw z (sym (over_none q l))

-- a list in four parts
record Parts (a t q e : ℕ) (l : Bits) : Type 0 where
  p : Bits
  x : Bits
  u : Bits
  v : Bits
  z : Bits
  are : l ≡ p ++ (x ++ (u ++ (v ++ z)))
  lp : length p ≡ a
  lx : a + length x ≡ t
  lu : t + length u ≡ q
  lv : q + length v ≡ e

split : (a t q e : ℕ) (l : Bits) → a ≤ t → t ≤ q → q ≤ e → e ≤ length l → Parts a t q e l
split a t q e l h1 h2 h3 h4 =
    let cut : (i j : ℕ) → i ≤ j → drop i l ≡ take (j - i) (drop i l) ++ drop j l =
    λ i j h. let s : i + (j - i) ≡ j = omega arith in sym (take-append-drop (j - i) (drop i l)) ∙ ap (λ (w : Bits). take (j - i) (drop i l) ++ w) (drop-drop (j - i) i l ∙ ap (λ (n : ℕ). drop n l) s) in
    record {
      p = take a l;
      x = take (t - a) (drop a l);
      u = take (q - t) (drop t l);
      v = take (e - q) (drop q l);
      z = drop e l;
      are = sym (take-append-drop a l) ∙ ap (λ (w : Bits). take a l ++ w) (cut a t h1 ∙ ap (λ (w : Bits). take (t - a) (drop a l) ++ w) (cut t q h2 ∙ ap (λ (w : Bits). take (q - t) (drop t l) ++ w) (cut q e h3)));
      lp = length-take-le a l (omega arith);
      lx = omega (arith, length_part a (t - a) l (omega arith));
      lu = omega (arith, length_part t (q - t) l (omega arith));
      lv = omega (arith, length_part q (e - q) l (omega arith));
    }

-- nothing has come to the front yet
pub rotate_none : (a e : ℕ) (l : Bits) → a ≤ e → l ≡ rotated a e e l
rotate_none a e l h =
    let z : e - e ≡ 0 = omega arith in
    let s : a + (e - a) ≡ e = omega arith in
    rw z (sym (take-append-drop a l) ∙ ap (λ (w : Bits). take a l ++ w) (sym (take-append-drop (e - a) (drop a l)) ∙ ap (λ (w : Bits). take (e - a) (drop a l) ++ w) (drop-drop (e - a) a l ∙ ap (λ (n : ℕ). drop n l) s)))

-- n bits more come to the front
pub rotate_more : (a t e n : ℕ) {q : ℕ} (l : Bits) → a ≤ t → t + n ≡ q → q ≤ e → e ≤ length l → rotated a (e - n) e (rotated a q e l) ≡ rotated a t e l
rotate_more a t e n {q} l h1 h2 h3 h4 =
    let c = split a t q e l h1 (omega arith) h3 h4 in
    let lxu = length-append c.x c.u in
    let luv = length-append c.u c.v in
    let lvx = length-append c.v c.x in
    let one : rotated a q e l ≡ c.p ++ (c.v ++ ((c.x ++ c.u) ++ c.z)) =
    ap (rotated a q e) (c.are ∙ ap (λ (w : Bits). c.p ++ w) (sym (append_assoc c.x c.u (c.v ++ c.z)))) ∙ rotate_parts a q e c.p (c.x ++ c.u) c.v c.z c.lp (omega (arith, c.lx, c.lu)) c.lv in
    let two : c.p ++ (c.v ++ ((c.x ++ c.u) ++ c.z)) ≡ c.p ++ ((c.v ++ c.x) ++ (c.u ++ c.z)) = simp append_assoc in
    let three : rotated a (e - n) e (rotated a q e l) ≡ c.p ++ (c.u ++ ((c.v ++ c.x) ++ c.z)) =
    ap (rotated a (e - n) e) (one ∙ two) ∙ rotate_parts a (e - n) e c.p (c.v ++ c.x) c.u c.z c.lp (omega (arith, c.lx, c.lu, c.lv)) (omega (arith, c.lx, c.lu, c.lv)) in
    let four : rotated a t e l ≡ c.p ++ ((c.u ++ c.v) ++ (c.x ++ c.z)) =
    ap (rotated a t e) (c.are ∙ ap (λ (w : Bits). c.p ++ (c.x ++ w)) (sym (append_assoc c.u c.v c.z))) ∙ rotate_parts a t e c.p c.x (c.u ++ c.v) c.z c.lp c.lx (omega (arith, c.lu, c.lv)) in
    let five : c.p ++ (c.u ++ ((c.v ++ c.x) ++ c.z)) ≡ c.p ++ ((c.u ++ c.v) ++ (c.x ++ c.z)) = simp append_assoc in
    three ∙ five ∙ sym four

-- where the places are in order, and where they are not
pub rotates : {a m e : Place} {d d' : List ℕ} → ordered (length d) a m e ≡ true → length d' ≡ length d → bits_of d' ≡ rotated (at a) (at m) (at e) (bits_of d) → Rotates a m e d d'
rotates h l e = record { same = l; bits = rw h e }

-- of whole bytes
pub rotates_bytes : {a m e : Place} {d d' : List ℕ} → ordered (length d) a m e ≡ true → a.bit + m.bit + e.bit ≡ 0 → length d' ≡ length d → d' ≡ rotated a.byte m.byte e.byte d → Rotates a m e d d'
rotates_bytes {a} {m} {e} {d} {d'} h z l r =
    let o = order (length d) a m e h in
    let ea : at a ≡ 8 * a.byte = omega arith in
    let em : at m ≡ 8 * m.byte = omega arith in
    let ee : at e ≡ 8 * e.byte = omega arith in
    let b = bytes_rotated a.byte m.byte e.byte d (omega (arith, o.from)) (omega (arith, o.to)) (omega (arith, o.ends)) in
    rotates h l (rw (ea, em, ee) (ap bits_of r ∙ b))

-- one turn of the loop of `shift_up`
pub shift_turn : (d0 d d' : List ℕ) (e k : ℕ) (p q : Place) {t r : Place} (n : ℕ) {f : Field ℕ Place} → length d ≡ length d0 → bits_of d ≡ moved (at p) (at p + k) (e - at p) (bits_of d0)
    → e + k ≤ 8 * length d0 → at p ≤ e → q.bit < 8 → at q + n ≡ at p → f ≡ taken_at d q n → t.bit < 8 → at t ≡ at q + k
    → Laid d t (enc n f.value) d' r → bits_of d' ≡ moved (at q) (at q + k) (e - at q) (bits_of d0)
shift_turn d0 d d' e k p q {t} {r} n {f} ln g cap le bq eq ef bt et h =
    let fq : Fits (length d) q n = record { bit = bq; ends = omega arith } in
    let ft : Fits (length d) t (length (enc n f.value)) = record { bit = bt; ends = omega (arith, length_enc n f.value) } in
    let ev : f.value ≡ dec (take n (drop (at q) (bits_of d))) = ap (λ (x : Field ℕ Place). x.value) (ef ∙ take_whole d q n fq) in
    let eb : bits_of d' ≡ over (at q + k) (enc n f.value) (bits_of d) = laid_in h ft ∙ ap (λ (m : ℕ). over m (enc n f.value) (bits_of d)) et in
    move_more d0 d e k (at p) n (at q) ln g cap le eq ev eb

-- what `rotate_last` does
pub rotate_last_done : (d d1 d2 : List ℕ) (a e m : Place) (k : ℕ) {f : Field ℕ Place} {r : Place} → a.bit < 8 → at a + k ≤ at e → at e ≤ 8 * length d → m.bit < 8 → at m + k ≡ at e → f ≡ taken_at d m k
    → length d1 ≡ length d → bits_of d1 ≡ moved (at a) (at a + k) (at m - at a) (bits_of d) → Laid d1 a (enc k f.value) d2 r → bits_of d2 ≡ rotated (at a) (at e - k) (at e) (bits_of d)
rotate_last_done d d1 d2 a e m k {f} {r} ba h cap bm em ef l1 e1 p =
    let mk : at m ≡ at e - k = omega arith in
    let fm : Fits (length d) m k = record { bit = bm; ends = omega arith } in
    let fa : Fits (length d1) a (length (enc k f.value)) = record { bit = ba; ends = omega (arith, length_enc k f.value) } in
    let ev : f.value ≡ dec (take k (drop (at e - k) (bits_of d))) = ap (λ (x : Field ℕ Place). x.value) (ef ∙ take_whole d m k fm) ∙ ap (λ (n : ℕ). dec (take k (drop n (bits_of d)))) mk in
    rotate_front d (at a) (at e) k h cap ev (e1 ∙ ap (λ (n : ℕ). moved (at a) (at a + k) (n - at a) (bits_of d)) mk) (laid_in p fa)
