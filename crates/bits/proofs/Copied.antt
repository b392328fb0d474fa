-- One turn of the loop that writes bits again. Assumes nothing.
use mathlib.Core.Path.{◌≡◌, sym, ap, ◌∙◌}
use mathlib.Core.List.{List, ◌++◌}
use Prim.Native.Nat.{ℕ, ◌+◌, ◌-◌, ◌*◌, ◌≤◌, ◌<◌}
use native.Mathlib.Omega.{arith}
use lib.ListN.{length, take, drop}
use lib.Seq.{take-add, drop-drop}
use Rattle.bits.specs.declared.Place.{Place}
use Rattle.bits.specs.declared.Field.{Field}
use Rattle.bits.specs.Over.{part_before}
use Rattle.bits.specs.Moves.{bits_from}
use Rattle.bits.specs.Steps.{Laid, Step, ◌⨾◌, stays, before_in, view_none, view, laid_step, said}
use Rattle.laws.specs.Buf.{▷-▷, ◌▷◌}
use Rattle.bits.specs.Reads.{taken_at, take_whole}
use Rattle.bits.specs.Places.{at, Fits}
use Rattle.definition.specs.Bits.{enc, dec, bits_of}
use Rattle.laws.specs.Bits.{enc_read}

pub copy_none : (d : List ℕ) (p q : Place) → Step d p (λ b. b ▷ bits_from (at q) (at q) d) d p
copy_none d p q =
    let z : at q - at q ≡ 0 = omega arith in
    stays _ (rw z (view_none d p))

pub copy_more : (d0 d : List ℕ) (a : ℕ) (p q : Place) {r : Place} (n : ℕ) {f : Field ℕ Place} {d' : List ℕ} {r' : Place} (q' : Place) → Step d0 p (λ b. b ▷ bits_from a (at q) d0) d r → a ≤ at q → at q + n ≤ at p → at p ≤ 8 * length d0
    → p.bit < 8 → q.bit < 8 → f ≡ taken_at d q n → Laid d r (enc n f.value) d' r' → at q' ≡ at q + n → Step d0 p (λ b. b ▷ bits_from a (at q') d0) d' r'
copy_more d0 d a p q {r} n {f} {d'} {r'} q' x ha hq hp bp bq ef h eq =
    let l = bits_of d0 in
    let sl = x.same in
    let fp : Fits (length d0) p 0 = record { bit = bp; ends = omega arith } in
    let kept : take (at p) (bits_of d) ≡ take (at p) l = rw (before_in (length d0) p fp) at x.kept in
    let fq : Fits (length d) q n = record { bit = bq; ends = omega arith } in
    let ev : f.value ≡ dec (take n (drop (at q) (bits_of d))) = ap (λ (y : Field ℕ Place). y.value) (ef ∙ take_whole d q n fq) in
    let rd : enc n f.value ≡ take n (drop (at q) l) =
    ap (enc n) ev ∙ enc_read d (at q) n (omega arith) ∙ part_before (at q) n (at p) (bits_of d) hq ∙ ap (λ (b : List ℕ). take n (drop (at q) b)) kept ∙ sym (part_before (at q) n (at p) l hq) in
    let aq : a + (at q - a) ≡ at q = omega arith in
    let nn : at q - a + n ≡ at q' - a = omega arith in
    let j : bits_from a (at q) d0 ++ enc n f.value ≡ bits_from a (at q') d0 =
    rw (rd, ← nn, take-add (at q - a) n (drop a l), drop-drop (at q - a) a l, aq) in
    said (x ⨾ laid_step h) _ (▷-▷ (view d0 p) (bits_from a (at q) d0) (enc n f.value) ∙ ap (λ (b : List ℕ). view d0 p ▷ b) j)
