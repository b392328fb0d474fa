-- Counts laid over zeros, one after another. Assumes nothing.
use Rattle.std.proofs.Common.{◌≡◌, ℕ, ◌+◌, ◌<◌, List, ◌∷◌, ◌++◌, length, drop, get_or, sym, ap, ◌∙◌, subst, arith, append_assoc, append-nil, add-one, length-append, drop-cons, []}
use Rattle.definition.specs.Answer.{each_of}
use Rattle.definition.specs.Bits.{Bits, enc, bits_of}
use Rattle.definition.specs.Format.{field, ◌⊗◌}
use Rattle.laws.specs.Bits.{length_bits, length_enc}
use Rattle.bits.specs.Over.{over, over_mid}
use Rattle.bits.specs.Places.{at, place, Fits, fits_room, at_place}
use Rattle.bits.specs.Steps.{Laid, laid_in}
use Rattle.bits.specs.declared.Place.{Place}
use Rattle.pack.specs.Record as P
use Rattle.read.specs.Sections.{Closes}

-- a place, and the bits before it and from it on
pub record Over (d : List ℕ) (p : Place) (a c : Bits) : Type 0 where
  pub bits : bits_of d ≡ a ++ c
  pub here : at p ≡ length a
  pub bit : p.bit < 8

one : {d : List ℕ} {p : Place} {a c : Bits} (n : ℕ) {d' : List ℕ} {q : Place} → Over d p a (enc 32 0 ++ c) → Laid d p (enc 32 n) d' q → Over d' q (a ++ enc 32 n) c
one {d} {p} {a} {c} n {d'} {q} o h =
    let f = enc 32 n in
    let lz = length_enc 32 0 in
    let lf = length_enc 32 n in
    let all : length (bits_of d) ≡ length a + (length (enc 32 0) + length c) = ap length o.bits ∙ length-append a (enc 32 0 ++ c) ∙ ap (λ (k : ℕ). length a + k) (length-append (enc 32 0) c) in
    let fits : Fits (length d) p (length f) = record { bit = o.bit; ends = omega (arith, length_bits d, o.here) } in
    let nx : q ≡ place (at p + length f) = rw (fits_room fits) at h.next in
    let e : at q ≡ length (a ++ f) = ap (λ (x : Place). at x) nx ∙ at_place (at p + length f) ∙ ap (λ (k : ℕ). k + length f) o.here ∙ sym (length-append a f) in
    record {
      bits = laid_in h fits ∙ ap (over (at p) f) o.bits ∙ over_mid (at p) a (enc 32 0) c f (sym o.here) (lz ∙ sym lf) ∙ sym (append_assoc a f c);
      here = e;
      bit = rw nx (omega arith);
    }

-- counts one after another, and as many zeros
pub encs : List ℕ → Bits
encs [] = []
encs (n ∷ ns) = enc 32 n ++ encs ns

pub open_for : List ℕ → Bits
open_for [] = []
open_for (n ∷ ns) = enc 32 0 ++ open_for ns

-- those of ms are still to be laid
pub record Closing (ns ms : List ℕ) (d d' : List ℕ) (p : Place) : Type 0 where
  pub same : length d' ≡ length d
  pub done : Bits
  pub lies : (l : Bits) → bits_of d ≡ open_for ns ++ l → Over d' p done (open_for ms ++ l)
  pub all : done ++ encs ms ≡ encs ns

pub closing_more : {ns ms : List ℕ} {n : ℕ} {ks : List ℕ} {d d1 d2 : List ℕ} {p q : Place} → ms ≡ n ∷ ks → Closing ns ms d d1 p → Laid d1 p (enc 32 n) d2 q → Closing ns ks d d2 q
unfolding encs open_for
closing_more {ns} {ms} {n} {ks} {d} {d1} {p = p} z h' x =
    let h : Closing ns (n ∷ ks) d d1 p = subst (λ (ms : List ℕ). Closing ns ms d d1 p) z h' in
    record {
      same = x.same ∙ h.same;
      done = h.done ++ enc 32 n;
      lies = λ l e.
          let o = h.lies l e in
          one {a = h.done} n (record { bits = o.bits ∙ ap (λ (b : Bits). h.done ++ b) (append_assoc (enc 32 0) (open_for ks) l); here = o.here; bit = o.bit }) x;
      all = append_assoc h.done (enc 32 n) (encs ks) ∙ h.all;
    }

pub closing_all : (n : P.Counts) {ms d d' : List ℕ} {p : Place} → Closing (each_of n) ms d d' p → ms ≡ [] → Closes n d d'
unfolding ◌⊗◌ field encs open_for
closing_all n {ms} {d} {d'} {p} h' e =
    let ns = each_of n in
    let h : Closing ns [] d d' p = subst (λ (ms : List ℕ). Closing ns ms d d' p) e h' in
    record {
      same = h.same;
      bits = λ l i. let o = h.lies l (i ∙ simp (append_assoc, append-nil)) in o.bits ∙ ap (λ (b : Bits). b ++ l) (sym (append-nil h.done) ∙ h.all) ∙ simp (append_assoc, append-nil);
    }

-- the next of some that are left
pub left_next : (ns : List ℕ) (i : ℕ) → i < length ns → drop i ns ≡ get_or ns i 0 ∷ drop (i + 1) ns
left_next ns i h = rw (add-one, drop-cons ns i 0)
