-- Digits read one after the other, one at least, and that a number past the limit may as well be the limit. Assumes nothing.
use Rattle.std.specs.Prelude.{if◌then◌else◌}
use Rattle.std.proofs.Common.{◌≡◌, ℕ, zero, suc, ◌+◌, ◌-◌, ◌*◌, ◌<◌, ◌≤◌, min, Bool, true, false, [], ◌∷◌, length, get_or, drop, sym, refl, ap, ◌∙◌, subst, arith}
use Rattle.std.specs.Prelude.{Option, Some, None}
use Rattle.definition.specs.Text.{Text, is_digit, digits, digits_after}
use Rattle.number.specs.Number.{limit, hold, Reads, start, digit}
use Rattle.text.specs.Parts.{at_cons}

-- ---- no digit yet, and one digit further on
pub read_none : (s : Text) (from v : ℕ) → Reads v (drop from s) (from - from) v (drop from s)
read_none s from v = let c : 0 ≡ from - from = omega arith in subst (λ (x : ℕ). Reads v (drop from s) x v (drop from s)) c start

module _ (s : Text) (from v i n k : ℕ) where
  pub read_more : from ≤ i → i < length s → is_digit (get_or s i 0) ≡ true → k ≡ min (n * 10 + (get_or s i 0 - 48)) limit
      → Reads v (drop from s) (i - from) n (drop i s) → Reads v (drop from s) (i + 1 - from) k (drop (i + 1) s)
  read_more f h d e r =
      let c : i + 1 - from ≡ suc (i - from) = omega arith in
      subst (λ (x : ℕ). Reads v (drop from s) x k (drop (i + 1) s)) (sym c)
      (subst (λ (x : ℕ). Reads v (drop from s) (suc (i - from)) x (drop (i + 1) s)) (sym e)
      (digit (subst (λ (t : Text). Reads v (drop from s) (i - from) n t) (at_cons s i h) r) d))

-- ---- what is left gives the same as the whole
pub record Steps {A : Type 0} (F : ℕ → ℕ → Text → A) : Type 0 where
  pub step : (c v b : ℕ) (t : Text) → is_digit b ≡ true → F c v (b ∷ t) ≡ F (suc c) (v * 10 + (b - 48)) t
  pub cap : (c v : ℕ) (t : Text) → F c v t ≡ F c (min v limit) t

pub follow : {A : Type 0} (F : ℕ → ℕ → Text → A) → Steps F → {v : ℕ} {s : Text} {c w : ℕ} {t : Text} → Reads v s c w t → F 0 v s ≡ F c w t
follow F k start = refl
follow F k (digit {c} {w} {b} {t} r d) = follow F k r ∙ k.step c w b t d ∙ k.cap (suc c) (w * 10 + (b - 48)) t

-- ---- digits after those of v, of which there are so many: one at least
abbrev pub digits_from : ℕ → ℕ → Text → Option ℕ
digits_from zero v [] = None
digits_from (suc c) v [] = Some v
digits_from zero v (b ∷ s) = digits_after v (b ∷ s)
digits_from (suc c) v (b ∷ s) = digits_after v (b ∷ s)

pub from_start : (s : Text) → digits s ≡ digits_from 0 0 s
unfolding digits
from_start [] = refl
from_start (b ∷ s) = refl

from_more : (c v : ℕ) (s : Text) → digits_after v s ≡ digits_from (suc c) v s
unfolding digits_after
from_more c v [] = refl
from_more c v (b ∷ s) = refl

pub from_digit : (c v b : ℕ) (s : Text) → is_digit b ≡ true → digits_from c v (b ∷ s) ≡ digits_from (suc c) (v * 10 + (b - 48)) s
unfolding digits_after
from_digit zero v b s d = rw d (from_more zero (v * 10 + (b - 48)) s)
from_digit (suc c) v b s d = rw d (from_more (suc c) (v * 10 + (b - 48)) s)

pub from_other : (c v b : ℕ) (s : Text) → is_digit b ≡ false → digits_from c v (b ∷ s) ≡ None
unfolding digits_after
from_other zero v b s d = rw d
from_other (suc c) v b s d = rw d

-- ---- a number past the limit may as well be the limit
cap_same : (n d : ℕ) → min (n * 10 + d) 10000000000000000000 ≡ min (min n 10000000000000000000 * 10 + d) 10000000000000000000
cap_same n d = omega arith

cap_twice : (n : ℕ) → min n 10000000000000000000 ≡ min (min n 10000000000000000000) 10000000000000000000
cap_twice n = omega arith

cap_early : (n : ℕ) (s : Text) → hold (digits_after n s) ≡ hold (digits_after (min n limit) s)
unfolding digits_after
cap_early n [] = ap Some (cap_twice n)
cap_early n (x ∷ s) =
    go (is_digit x)
    (cap_early (n * 10 + (x - 48)) s
    ∙ ap (λ (k : ℕ). hold (digits_after k s)) (cap_same n (x - 48))
    ∙ sym (cap_early (min n limit * 10 + (x - 48)) s))
  where
    go : (b : Bool) → hold (digits_after (n * 10 + (x - 48)) s) ≡ hold (digits_after (min n limit * 10 + (x - 48)) s)
        → hold (if b then digits_after (n * 10 + (x - 48)) s else None) ≡ hold (if b then digits_after (min n limit * 10 + (x - 48)) s else None)
    go true e = e
    go false e = refl

pub from_cap : (c v : ℕ) (s : Text) → hold (digits_from c v s) ≡ hold (digits_from c (min v limit) s)
from_cap zero v [] = refl
from_cap (suc c) v [] = ap Some (cap_twice v)
from_cap zero v (b ∷ s) = cap_early v (b ∷ s)
from_cap (suc c) v (b ∷ s) = cap_early v (b ∷ s)

pub held_steps : Steps (λ c v s. hold (digits_from c v s))
held_steps = record { step = λ c v b s d. ap hold (from_digit c v b s d); cap = from_cap }
