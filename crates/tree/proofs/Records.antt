-- A head by its bytes, and the records at a position by the head there. Assumes nothing.
use mathlib.Core.Path.{◌≡◌, refl, ap, sym, ◌∙◌}
use mathlib.Core.Logic.{◌⊎◌, inl, inr}
use mathlib.Core.List.{List, [], ◌∷◌, ◌++◌}
use mathlib.Core.Bool.{Bool, true, false}
use Rattle.std.specs.Prelude.{Some, None}
use denote.Ref.{Bor}
use Prim.Native.Nat.{ℕ, zero, suc, ◌+◌, ◌-◌, ◌/◌, ◌≤◌, ◌<◌}
use native.Mathlib.Omega.{arith}
use lib.ListN.{length, get_or, take, drop, length-take, length-drop}
use lib.Seq.{drop-drop, drop-cons}
use lib.Bits.{bit_and, and_mask}
use lib.Dec.{leb}
use borrow.Author.Tests.{leb-true, leb-false, le-leb, lt-leb, le-ltb, lt-ltb}
use Rattle.definition.specs.Bits.{enc, dec, bits_of}
use Rattle.definition.specs.Text.{Text}
use Rattle.definition.specs.Tree.{Rec, depth_width, name_width, head_bytes, body_of, record_of, and_then, records_up_to, records}
use Rattle.tree.specs.Place.{IsWord, IsHead, records_at}
use Rattle.tree.proofs.Bits.{four, first_field, second_field, third_field}

-- ---- the numbers of the head at the front

abbrev pub depth_in : Text → ℕ
depth_in t = dec (take depth_width (bits_of (take head_bytes t)))

abbrev pub name_in : Text → ℕ
name_in t = dec (take name_width (drop depth_width (bits_of (take head_bytes t))))

abbrev pub text_in : Text → ℕ
text_in t = dec (drop (depth_width + name_width) (bits_of (take head_bytes t)))

pub le_or_lt : (a b : ℕ) → (a ≤ b) ⊎ (b < a)
le_or_lt a b = go (leb a b) refl
  where
    go : (x : Bool) → leb a b ≡ x → (a ≤ b) ⊎ (b < a)
    go true e = inl (leb-true a b e)
    go false e = inr (leb-false a b e)

-- the record of a depth and so many bytes of name and of text after a head
abbrev rec_in : Text → ℕ → ℕ → ℕ → Rec
rec_in t d n k = record { depth = d; name = take n (drop head_bytes t); text = take k (drop n (drop head_bytes t)) }

body_whole : (d n k : ℕ) (t : Text) → head_bytes + (n + k) ≤ length t
    → body_of d n k (drop head_bytes t) ≡ Some (rec_in t d n k, drop (n + k) (drop head_bytes t))
body_whole d n k t h = let q : n + k ≤ length (drop head_bytes t) = omega (arith, length-drop head_bytes t) in simp (le-leb _ _ q)

body_cut : (d n k : ℕ) (t : Text) → head_bytes ≤ length t → length t < head_bytes + (n + k) → body_of d n k (drop head_bytes t) ≡ None
body_cut d n k t g h = let q : length (drop head_bytes t) < n + k = omega (arith, length-drop head_bytes t) in simp (lt-leb _ _ q)

module _ (t : Text) where
  record_short : length t < head_bytes → record_of t ≡ None
  unfolding record_of
  record_short h = rw (lt-ltb _ _ h)

  record_long : head_bytes ≤ length t → record_of t ≡ body_of (depth_in t) (name_in t) (text_in t) (drop head_bytes t)
  unfolding record_of
  record_long h = rw (le-ltb _ _ h)

  record_whole : head_bytes + (name_in t + text_in t) ≤ length t
      → record_of t ≡ Some (rec_in t (depth_in t) (name_in t) (text_in t), drop (name_in t + text_in t) (drop head_bytes t))
  record_whole h = record_long (omega arith) ∙ body_whole _ _ _ t h

  record_cut : length t < head_bytes + (name_in t + text_in t) → record_of t ≡ None
  record_cut h = go (le_or_lt head_bytes (length t))
    where
      go : (head_bytes ≤ length t) ⊎ (length t < head_bytes) → record_of t ≡ None
      go (inl p) = record_long p ∙ body_cut _ _ _ t p h
      go (inr p) = record_short p

-- ---- the head at a position

module _ (s : Text) (at : ℕ) where
  abbrev depth_at : ℕ
  depth_at = depth_in (drop at s)

  abbrev name_at : ℕ
  name_at = name_in (drop at s)

  abbrev text_at : ℕ
  text_at = text_in (drop at s)

  at_whole : at + head_bytes + name_at + text_at ≤ length s
      → record_of (drop at s) ≡ Some (rec_in (drop at s) depth_at name_at text_at, drop (name_at + text_at) (drop head_bytes (drop at s)))
  at_whole h = record_whole (drop at s) (omega (arith, length-drop at s))

  at_cut : length s < at + head_bytes + name_at + text_at → record_of (drop at s) ≡ None
  at_cut h = record_cut (drop at s) (omega (arith, length-drop at s))

-- ---- the records at a position

-- the bytes from a up to b
abbrev pub part : Text → ℕ → ℕ → Text
part s a b = take (b - a) (drop a s)

cons_first : {r q : Rec} {rs qs : List Rec} → (r ∷ rs) ≡ q ∷ qs → r ≡ q
cons_first h = cc

cons_rest : {r q : Rec} {rs qs : List Rec} → (r ∷ rs) ≡ q ∷ qs → rs ≡ qs
cons_rest h = cc

-- what follows the first record is shorter
then_same : (t : Text) (f g : Text → List Rec) → ((rest : Text) → length rest < length t → f rest ≡ g rest) → and_then (record_of t) f ≡ and_then (record_of t) g
then_same t f g same = go (le_or_lt (head_bytes + (name_in t + text_in t)) (length t))
  where
    go : (head_bytes + (name_in t + text_in t) ≤ length t) ⊎ (length t < head_bytes + (name_in t + text_in t)) → and_then (record_of t) f ≡ and_then (record_of t) g
    go (inl h) =
        let rest = drop (name_in t + text_in t) (drop head_bytes t) in
        let l : length rest ≡ length t - head_bytes - (name_in t + text_in t) = simp length-drop in
        rw (record_whole t h) (ap (λ (x : List Rec). rec_in t (depth_in t) (name_in t) (text_in t) ∷ x) (same rest (omega arith)))
    go (inr h) = rw (record_cut t h)

-- the bound on the number of records is no matter, where it is enough
enough : (k m : ℕ) (t : Text) → length t ≤ k → length t ≤ m → records_up_to k t ≡ records_up_to m t
unfolding records_up_to
enough zero zero t p q = refl
enough zero (suc m) t p q = rw (record_short t (omega arith))
enough (suc k) zero t p q = rw (record_short t (omega arith))
enough (suc k) (suc m) t p q = then_same t (records_up_to k) (records_up_to m) λ rest h. enough k m rest (omega arith) (omega arith)

more : (t : Text) → records t ≡ and_then (record_of t) records
unfolding records records_up_to
more t =
    enough (length t) (suc (length t)) t (omega arith) (omega arith)
    ∙ then_same t (records_up_to (length t)) records λ rest h. enough (length t) (length rest) rest (omega arith) (omega arith)

module _ (s : Text) (at : ℕ) where
  -- the record at the front, and those after it
  records_whole : at + head_bytes + name_at s at + text_at s at ≤ length s
      → records_at s at ≡ rec_in (drop at s) (depth_at s at) (name_at s at) (text_at s at) ∷ records_at s (at + head_bytes + name_at s at + text_at s at)
  records_whole h =
      let e : drop (name_at s at + text_at s at) (drop head_bytes (drop at s)) ≡ drop (at + head_bytes + name_at s at + text_at s at) s =
      rw (drop-drop, drop-drop) (ap (λ (k : ℕ). drop k s) (omega arith)) in
      more (drop at s) ∙ rw (at_whole s at h, e)

  records_cut : length s < at + head_bytes + name_at s at + text_at s at → records_at s at ≡ []
  records_cut h = more (drop at s) ∙ rw (at_cut s at h)

  name_length : at + head_bytes + name_at s at ≤ length s → length (take (name_at s at) (drop head_bytes (drop at s))) ≡ name_at s at
  name_length h = simp (length-take, length-drop) (omega arith)

  text_length : at + head_bytes + name_at s at + text_at s at ≤ length s → length (take (text_at s at) (drop (name_at s at) (drop head_bytes (drop at s)))) ≡ text_at s at
  text_length h = simp (length-take, length-drop) (omega arith)

  -- those after a record begin where it ends
  pub records_next : {r : Rec} {rs : List Rec} → records_at s at ≡ r ∷ rs → rs ≡ records_at s (at + head_bytes + length r.name + length r.text)
  records_next {r} {rs} h = go (le_or_lt (at + head_bytes + name_at s at + text_at s at) (length s))
    where
      go : (at + head_bytes + name_at s at + text_at s at ≤ length s) ⊎ (length s < at + head_bytes + name_at s at + text_at s at)
          → rs ≡ records_at s (at + head_bytes + length r.name + length r.text)
      go (inl p) =
          let i = sym h ∙ records_whole p in
          rw (cons_first i, cons_rest i, name_length (omega arith), text_length p)
      go (inr p) = let n : ◌≡◌ {A = ℕ} 0 (suc (length rs)) = ap length (sym (records_cut p) ∙ h) in absurd (omega arith)

-- ---- the head by what the code read

-- the first four bytes at a position
four_at : (s : Text) (at : ℕ) → at + 4 ≤ length s
    → take 4 (drop at s) ≡ get_or s at 0 ∷ get_or s (at + 1) 0 ∷ get_or s (at + 2) 0 ∷ get_or s (at + 2 + 1) 0 ∷ []
four_at s at h =
    let a : drop at s ≡ get_or s at 0 ∷ drop (suc at) s = drop-cons s at 0 (omega arith) in
    let b : drop (suc at) s ≡ get_or s (suc at) 0 ∷ drop (suc (suc at)) s = drop-cons s (suc at) 0 (omega arith) in
    let c : drop (suc (suc at)) s ≡ get_or s (suc (suc at)) 0 ∷ drop (suc (suc (suc at))) s = drop-cons s (suc (suc at)) 0 (omega arith) in
    let d : drop (suc (suc (suc at))) s ≡ get_or s (suc (suc (suc at))) 0 ∷ drop (suc (suc (suc (suc at)))) s = drop-cons s (suc (suc (suc at))) 0 (omega arith) in
    let e : suc at ≡ at + 1 = omega arith in
    let f : suc (at + 1) ≡ at + 2 = omega arith in
    let g : suc (at + 2) ≡ at + 2 + 1 = omega arith in
    rw (a, b, c, d, e, f, g)

module _ (s : Text) (at w t : ℕ) (h : at + head_bytes ≤ length s) (hw : IsWord s at w) (ht : IsWord s (at + 2) t) where
  bits_at : bits_of (take head_bytes (drop at s)) ≡ enc 16 w ++ enc 16 t
  bits_at = rw (four_at s at h, hw.is, ht.is) (four _ _ _ _ hw.second ht.second)

  depth_read : depth_at s at ≡ w / 512
  depth_read = rw (bits_at, first_field w t) (omega (arith, hw.is, hw.first, hw.second))

  name_read : name_at s at ≡ bit_and w 511
  name_read = rw (bits_at, and_mask w 9) (second_field w t)

  text_read : text_at s at ≡ t
  text_read = rw (bits_at, third_field w t) (omega (arith, ht.is, ht.first, ht.second))

  pub read_whole : at + head_bytes + bit_and w 511 + t ≤ length s
      → {name text : Bor Text} → name.now ≡ part s (at + head_bytes) (at + head_bytes + bit_and w 511)
      → text.now ≡ part s (at + head_bytes + bit_and w 511) (at + head_bytes + bit_and w 511 + t)
      → IsHead s at (record { depth = w / 512; name = name; text = text; next = at + head_bytes + bit_and w 511 + t })
  read_whole q n k =
      let p : at + head_bytes + name_at s at + text_at s at ≤ length s = rw (name_read, text_read) q in
      let x : at + head_bytes + bit_and w 511 - (at + head_bytes) ≡ bit_and w 511 = omega arith in
      let y : at + head_bytes + bit_and w 511 + t - (at + head_bytes + bit_and w 511) ≡ t = omega arith in
      record {
        deep = omega (arith, hw.is, hw.first, hw.second);
        ends = rw (n, k) (simp (length-take, length-drop) (omega arith));
        inside = q;
        here = records_whole s at p ∙ rw (n, k, x, y, depth_read, name_read, text_read, drop-drop, drop-drop);
      }

  pub read_cut : length s < at + head_bytes + bit_and w 511 + t → records_at s at ≡ []
  read_cut q = let p : length s < at + head_bytes + name_at s at + text_at s at = rw (name_read, text_read) q in records_cut s at p

pub read_past : (s : Text) (at : ℕ) → length s < at + head_bytes → records_at s at ≡ []
read_past s at h = records_cut s at (omega arith)
