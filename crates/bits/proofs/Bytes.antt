-- Bytes copied at a whole byte, and put one after another. Assumes nothing.
use mathlib.Core.Path.{◌≡◌, sym, ap, ◌∙◌}
use mathlib.Core.List.{List, [], ◌++◌, append_assoc, ◌∷◌}
use Prim.Native.Nat.{ℕ, ◌+◌, ◌*◌, ◌≤◌, ◌<◌}
use native.Mathlib.Omega.{arith}
use lib.ListN.{length, take, drop, get_or}
use native.Mathlib.Numerals.{add-one}
use lib.Seq.{take-length, paste, length-paste, take-suc}
use Rattle.bits.specs.declared.Place.{Place}
use Rattle.bits.specs.Over.{over}
use Rattle.bits.proofs.Overwriting.{over_is, laid_short}
use Rattle.bits.specs.Steps.{refuses, view_out, Laid, Step, ◌⨾◌, stays, view_none, view, said, Puts, field_step}
use Rattle.laws.specs.Buf.{▷-full, ▷-▷, ◌▷◌}
use Rattle.bits.specs.Places.{past, place_at_lem, at, Fits, fits_room, room_short}
use Rattle.definition.specs.Bits.{enc, bits_of}
use Rattle.laws.specs.Bits.{bits_append, bits_take, bits_drop, length_bits, bits_one}
use Rattle.definition.specs.Format.{field}

-- bytes for which there is no room, and bytes that were copied
pub copy_short : (d s : List ℕ) (p : Place) → (p.bit < 8 → length d < p.byte + length s) → Laid d p (bits_of s) d past
copy_short d s p h =
    let ls = length_bits s in
    laid_short d p (bits_of s) (room_short (length d) p (length (bits_of s)) (λ k. omega (arith, h k)))

pub copy_done : (d s d' : List ℕ) (p : Place) → p.bit ≡ 0 → p.byte + length s ≤ length d → d' ≡ paste d p.byte s (length s)
    → Laid d p (bits_of s) d' record { byte = p.byte + length s; bit = 0 }
copy_done d s d' p b h e =
    let k = p.byte in
    let ls = length_bits s in
    let f : Fits (length d) p (length (bits_of s)) = record { bit = omega arith; ends = omega arith } in
    let ap0 : at p ≡ 8 * k = omega arith in
    let pk : 8 * k + length (bits_of s) ≡ 8 * (k + length s) = omega arith in
    let all : paste d k s (length s) ≡ take k d ++ (s ++ drop (k + length s) d) = rw (take-length, append_assoc) in
    let bs : bits_of (paste d k s (length s)) ≡ over (8 * k) (bits_of s) (bits_of d) =
    ap bits_of all ∙ rw (bits_append, bits_append, ← bits_take k d (omega arith), ← bits_drop (k + length s) d h, ← pk) (sym (over_is (8 * k) (bits_of s) (bits_of d))) in
    record {
      same = rw e (length-paste d k s (length s) h (omega arith));
      bits = rw (fits_room f, e, ap0) bs;
      next = rw (fits_room f) (place_at_lem record { byte = k + length s; bit = 0 } (omega arith) (omega arith));
    }

-- bytes put one after another: none yet, and one more
pub each_none : (d : List ℕ) (p : Place) → Step d p (λ b. b ▷ bits_of []) d p
unfolding bits_of
each_none d p = stays _ (view_none d p)

pub each_more : (s : List ℕ) (i : ℕ) {x : ℕ} {d : List ℕ} {p : Place} {d' : List ℕ} {q : Place} {d'' : List ℕ} {r : Place} → i < length s → x ≡ get_or s i 0
    → Step d p (λ b. b ▷ bits_of (take i s)) d' q → Puts (field 8) x d' q d'' r → Step d p (λ b. b ▷ bits_of (take (i + 1) s)) d'' r
each_more s i {x} {d} {p} h e w y =
    let j : bits_of (take i s) ++ enc 8 x ≡ bits_of (take (i + 1) s) =
    rw (e, add-one i, take-suc s i 0 h, bits_append (take i s) (get_or s i 0 ∷ []), bits_one (get_or s i 0)) in
    said (w ⨾ field_step 8 y) _ (▷-▷ (view d p) (bits_of (take i s)) (enc 8 x) ∙ ap (λ (l : List ℕ). view d p ▷ l) j)

-- from a place past every end
pub bytes_past : (d s : List ℕ) (p : Place) → 7 < p.bit → Step d p (λ b. b ▷ bits_of s) d past
bytes_past d s p h = refuses _ (rw (view_out d p (room_short (length d) p 0 (λ k. absurd (omega arith)))) (▷-full (8 * length d) (bits_of s)))
