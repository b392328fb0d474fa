-- Laws of `*` that are put, and of texts with them behind. Assumes nothing.
use Prim.Native.Nat.{ℕ, ◌+◌}
use mathlib.Core.Path.{◌≡◌, sym, ap, ◌∙◌}
use mathlib.Core.List.{List, ◌++◌}
use lib.ListN.{length, replicate, length-append, length-replicate, replicate-append-replicate}
use Rattle.definition.specs.Bits.{Bits, enc, bits_of}
use Rattle.definition.specs.Format.{field, count, text}
use Rattle.laws.specs.Bits.{bits_append, bits_one}
use Rattle.laws.specs.Buf.{◌▷◌, ▷-▷}
use Rattle.bits.specs.Steps.{Step, Puts, Pads, put_same, put_text, view, ◌⨾◌, said, stays, view_none, field_step}
use Rattle.bits.specs.declared.Place.{Place}
use Rattle.std.specs.Prelude.{Option, Some, None}
use Rattle.std.specs.Option.{MatchOption, IsSomeAnd}
use Rattle.definition.specs.Text.{Text}
use Rattle.pack.specs.Value.{given_by, starred, starred_by, name_meaning}
use Rattle.pack.specs.declared.stars.Starred.{Starred}

-- no `*` yet, one more

pub star_none : (d : List ℕ) (p : Place) → Step d p (λ b. b ▷ bits_of (replicate 0 42)) d p
unfolding bits_of
star_none d p = stays _ (view_none d p)

module _ {d : List ℕ} {p : Place} {d' : List ℕ} {q : Place} {d'' : List ℕ} {r : Place} where
  pub star_more : (i : ℕ) → Step d p (λ b. b ▷ bits_of (replicate i 42)) d' q → Puts (field 8) 42 d' q d'' r → Step d p (λ b. b ▷ bits_of (replicate (i + 1) 42)) d'' r
  star_more i w y =
      let star : ℕ = 42 in
      let e : bits_of (replicate i star) ++ enc 8 star ≡ bits_of (replicate (i + 1) star) =
      ap (λ (l : Bits). bits_of (replicate i star) ++ l) (sym (bits_one star)) ∙ sym (bits_append (replicate i star) (replicate 1 star)) ∙ ap bits_of (replicate-append-replicate i 1 star) in
      said (w ⨾ field_step 8 y) _ (▷-▷ (view d p) (bits_of (replicate i star)) (enc 8 star) ∙ ap (λ (l : Bits). view d p ▷ l) e)

-- a text with so many `*` behind it
pub put_starred : (s : List ℕ) (n : ℕ) {d d1 d2 d3 d4 : List ℕ} {p p1 p2 p3 p4 : Place} → Puts count (length s + n) d p d1 p1 → Pads d1 p1 d2 p2
    → Step d2 p2 (λ b. b ▷ bits_of s) d3 p3 → Step d3 p3 (λ b. b ▷ bits_of (replicate n 42)) d4 p4 → Puts text (s ++ replicate n 42) d p d4 p4
put_starred s n {d2 = d2} {p2 = p2} x y z w =
    let star : ℕ = 42 in
    let e : length s + n ≡ length (s ++ replicate n star) = sym (length-append s (replicate n star) ∙ ap (λ (k : ℕ). length s + k) (length-replicate n star)) in
    put_text (put_same e x) y (said (z ⨾ w) _ (▷-▷ (view d2 p2) (bits_of s) (bits_of (replicate n star)) ∙ ap (λ (l : Bits). view d2 p2 ▷ l) (sym (bits_append s (replicate n star)))))

-- a name that may be missing
pub name_is : (s : Text) (o : Option ℕ) (r : Option Starred) {φ : ℕ → Starred → Type 0} → MatchOption o (r ≡ None) (λ x. IsSomeAnd r (φ x)) → ((x : ℕ) (y : Starred) → φ x y → starred y ≡ starred_by s x)
    → given_by starred r ≡ name_meaning s o
unfolding name_meaning
name_is s None r h k = rw h
name_is s (Some x) (Some y) h k = ap (λ (t : Text). Some t) (k x y h)
name_is s (Some x) None h k = absurd h
