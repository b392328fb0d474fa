-- One row more: a value for it beside those of the rows before, and what holds of all. Assumes nothing.
use Rattle.std.specs.Prelude.{if◌then◌else◌, ◌≡◌, refl, ℕ, suc, ◌<◌, eqb}
use Rattle.std.proofs.Common.{subst, arith, eq-eqb, ne_eqb}
use Rattle.std.proofs.Math.Decide.{dec_lt}

abbrev pub with : {A : Type 0} → (ℕ → A) → ℕ → A → ℕ → A
with f n a r = if eqb r n then a else f r

pub with_here : {A : Type 0} (f : ℕ → A) (n : ℕ) (a : A) → with f n a n ≡ a
with_here f n a = rw (eq-eqb n n refl)

pub with_before : {A : Type 0} (f : ℕ → A) (n : ℕ) (a : A) (r : ℕ) → r < n → with f n a r ≡ f r
with_before f n a r h = rw (ne_eqb r n (λ e. omega arith))

pub one_more : (P : ℕ → Type 0) (n : ℕ) → ((r : ℕ) → r < n → P r) → P n → (r : ℕ) → r < suc n → P r
one_more P n before here r h = by (dec_lt r n)
  where
    by : Dec (r < n) → P r
    by (yes k) = before r k
    by (no k) = let z : n ≡ r = omega arith in subst P z here
