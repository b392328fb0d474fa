-- The last row below a number that passes a test: what follows from its law for one row more. Assumes nothing.
use Rattle.std.specs.Prelude.{◌≡◌, refl, Bool, true, false, ℕ, zero, suc, ◌-◌, ◌<◌}
use Rattle.std.proofs.Common.{sym, ap, ◌∙◌, arith}
use Rattle.std.specs.Prelude.{Option, Some, None}
use Rattle.definition.specs.Base.{◌or_else◌, when, keep, find}
use Rattle.index.specs.Last.{last_below, down, last_more, last_none, down_none, down_yes, down_no, find_none, find_yes, find_no}

-- ---- one row more

pub last_yes : (p : ℕ → Bool) (n : ℕ) → p n ≡ true → last_below p (suc n) ≡ Some n
last_yes p n h = last_more p n ∙ ap (λ (b : Bool). when b n or_else last_below p n) h

pub last_no : (p : ℕ → Bool) (n : ℕ) → p n ≡ false → last_below p (suc n) ≡ last_below p n
last_no p n h = last_more p n ∙ ap (λ (b : Bool). when b n or_else last_below p n) h

-- the same for a loop that goes down
pub last_here : (p : ℕ → Bool) (i : ℕ) → 0 < i → p (i - 1) ≡ true → last_below p i ≡ Some (i - 1)
last_here p i h e = let z : i ≡ suc (i - 1) = omega arith in ap (last_below p) z ∙ last_yes p (i - 1) e

pub last_on : (p : ℕ → Bool) (i : ℕ) → 0 < i → p (i - 1) ≡ false → last_below p i ≡ last_below p (i - 1)
last_on p i h e = let z : i ≡ suc (i - 1) = omega arith in ap (last_below p) z ∙ last_no p (i - 1) e

-- a last row is below and passes
pub last_in : (p : ℕ → Bool) (n : ℕ) {r : ℕ} → last_below p n ≡ Some r → (r < n) × (p r ≡ true)
last_in p zero {r} e = let z : None ≡ Some r = sym (last_none p) ∙ e in let y : ◌≡◌ {A = ℕ} 0 1 = cc in absurd (omega arith)
last_in p (suc n) {r} e = go (p n) refl (last_in p n)
  where
    more : (r < n) × (p r ≡ true) → (r < suc n) × (p r ≡ true)
    more h = (omega arith, h.1)

    go : (b : Bool) → p n ≡ b → (last_below p n ≡ Some r → (r < n) × (p r ≡ true)) → (r < suc n) × (p r ≡ true)
    go true h before = let z : Some n ≡ Some r = sym (last_yes p n h) ∙ e in let y : n ≡ r = cc in (omega arith, rw (← y) h)
    go false h before = more (before (sym (last_no p n h) ∙ e))

-- tests that agree on the rows
pub last_same : (p q : ℕ → Bool) (n : ℕ) → ((r : ℕ) → r < n → p r ≡ q r) → last_below p n ≡ last_below q n
last_same p q zero h = last_none p ∙ sym (last_none q)
last_same p q (suc n) h =
    last_more p n
    ∙ ap (λ (b : Bool). when b n or_else last_below p n) (h n (omega arith))
    ∙ ap (λ (o : Option ℕ). when (q n) n or_else o) (last_same p q n (λ r k. h r (omega arith)))
    ∙ sym (last_more q n)

-- ---- the rows from the last to the first

-- the first of the rows with a wider test, from the last on, that passes
pub find_down : (p q : ℕ → Bool) (n : ℕ) → ((r : ℕ) → r < n → p r ≡ true → q r ≡ true) → find p (keep q (down n)) ≡ last_below p n
find_down p q zero h = ap (find p) (down_none q) ∙ find_none p ∙ sym (last_none p)
find_down p q (suc n) h = go (p n) (q n) refl refl (find_down p q n (λ r k. h r (omega arith)))
  where
    go : (a b : Bool) → p n ≡ a → q n ≡ b → find p (keep q (down n)) ≡ last_below p n → find p (keep q (down (suc n))) ≡ last_below p (suc n)
    go true true e f before =
        ap (find p) (down_yes q n f) ∙ find_yes p n (keep q (down n)) e ∙ sym (last_yes p n e)
    go true false e f before = let z : ◌≡◌ {A = Bool} true false = sym (h n (omega arith) e) ∙ f in let y : ◌≡◌ {A = ℕ} 0 1 = cc in absurd (omega arith)
    go false true e f before =
        ap (find p) (down_yes q n f) ∙ find_no p n (keep q (down n)) e ∙ before ∙ sym (last_no p n e)
    go false false e f before = ap (find p) (down_no q n f) ∙ before ∙ sym (last_no p n e)
