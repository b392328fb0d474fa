-- Words that are the same once those from a place on are cleared: those before it agree. Assumes nothing.
use Rattle.std.specs.Prelude.{ℕ, ◌-◌, ◌≤◌, ◌<◌, min, ◌≡◌, refl, Bool, true, false, List, ltb, length, get_or, take, replicate}
use Rattle.std.proofs.Common.{arith, sym, ap, ◌∙◌, length-append, length-take, get_or-take, ltb-true, ltb-false}
use Rattle.std.proofs.lemmas.List.{length-replicate}
use Rattle.std.proofs.Math.ListN.{get_or-append, get_or-eq_default}
use Rattle.bits.specs.Clear.{cleared}
use Rattle.index.specs.Below.{SameBelow}
use Rattle.names.specs.Noted.{cleared_same}

length_cleared : (n : ℕ) (w : List ℕ) → length (cleared n w) ≡ length w
length_cleared n w =
    length-append (take n w) (replicate (length w - n) 0) ∙ omega (arith, length-take n w, length-replicate {A = ℕ} (length w - n) 0)

word_cleared : (n : ℕ) (w : List ℕ) (j : ℕ) → j < n → get_or (cleared n w) j 0 ≡ get_or w j 0
word_cleared n w j h = go (ltb j (length w)) refl
  where
    go : (b : Bool) → ltb j (length w) ≡ b → get_or (cleared n w) j 0 ≡ get_or w j 0
    go true e =
        let k : j < length w = ltb-true j (length w) e in
        get_or-append (take n w) (replicate (length w - n) 0) 0 j (omega (arith, length-take n w)) ∙ get_or-take n w j 0 h
    go false e =
        let k : length w ≤ j = ltb-false j (length w) e in
        get_or-eq_default (cleared n w) 0 {n = j} (omega (arith, length_cleared n w)) ∙ sym (get_or-eq_default w 0 {n = j} k)

pub below_cleared : {n : ℕ} {w w' : List ℕ} → cleared n w' ≡ cleared n w → SameBelow n w w'
below_cleared {n} {w} {w'} e =
    record {
      long = sym (length_cleared n w') ∙ ap length e ∙ length_cleared n w;
      words = λ j h. sym (word_cleared n w' j h) ∙ ap (λ (l : List ℕ). get_or l j 0) e ∙ word_cleared n w j h;
    }

pub cleared_below : {n : ℕ} {w w' : List ℕ} → SameBelow n w w' → cleared n w' ≡ cleared n w
cleared_below {n} {w} {w'} x = cleared_same n w w' x.long x.words

pub below_less : {m n : ℕ} {w w' : List ℕ} → m ≤ n → SameBelow n w w' → SameBelow m w w'
below_less k x = record { long = x.long; words = λ j h. x.words j (omega arith) }

-- past the end there is nothing that could differ
pub below_cap : {m n : ℕ} {w w' : List ℕ} → m ≡ min n (length w) → SameBelow m w w' → SameBelow n w w'
below_cap {m} {n} {w} {w'} e x = record { long = x.long; words = λ j h. go j h (ltb j (length w)) refl }
  where
    go : (j : ℕ) → j < n → (b : Bool) → ltb j (length w) ≡ b → get_or w' j 0 ≡ get_or w j 0
    go j h true i = x.words j (omega (arith, ltb-true j (length w) i))
    go j h false i =
        let k : length w ≤ j = ltb-false j (length w) i in
        get_or-eq_default w' 0 {n = j} (omega (arith, x.long)) ∙ sym (get_or-eq_default w 0 {n = j} k)
