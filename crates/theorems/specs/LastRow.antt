-- The row of the last item that passes a test, as the definition finds it over the numbered list. Assumes nothing.
use Rattle.std.specs.Prelude.{◌≡◌, refl, Bool, true, false, ◌||◌, List, [], ◌∷◌, ℕ, zero, suc, ◌+◌, ◌<◌}
use Rattle.std.proofs.Common.{sym, ap, ◌∙◌, true≢false, arith}
use Rattle.std.proofs.Math.Bool.{or-true}
use Rattle.std.specs.Prelude.{Option, Some, None}
use Rattle.definition.specs.Base.{◌>>=◌, ◌or_else◌, when, find_last, some?, numbered}
use Rattle.theorems.specs.Leads.{At, some_at}

-- it stands at the row and passes, and none behind does
pub record LastAt {A : Type 0} (p : A → Bool) (l : List A) (row : ℕ) : Type 0 where
  pub item : A
  pub is : At l row item
  pub holds : p item ≡ true
  pub last : (q : ℕ) (x : A) → row < q → At l q x → p x ≡ false

-- counted from a row on
pub data RowFound {A : Type 0} (p : A → Bool) (from : ℕ) (l : List A) : Option ℕ → Type 0 where
  nowhere : some? p l ≡ false → RowFound p from l None
  found : (k row : ℕ) → row ≡ from + k → some? p l ≡ true → LastAt p l k → RowFound p from l (Some row)

pub none_at : {A : Type 0} (p : A → Bool) (l : List A) → some? p l ≡ false → (i : ℕ) (x : A) → At l i x → p x ≡ false
none_at p l h i x e = by (p x) refl
  where
    by : (t : Bool) → p x ≡ t → t ≡ false
    by false k = refl
    by true k = absurd (true≢false (sym (some_at p l i x e k) ∙ h))

pub last_row : {A : Type 0} (p : A → Bool) (n : ℕ) (l : List A) → RowFound p n l (find_last (λ (x : ℕ × A). p x.1) (numbered n l) >>= λ x. Some x.0)
unfolding find_last numbered some?
last_row p n [] = nowhere refl
last_row {A} p n (x ∷ l) = by (find_last (λ (x : ℕ × A). p x.1) (numbered (suc n) l)) (last_row p (suc n) l) (p x) refl
  where
    later : {k : ℕ} → LastAt p l k → (q : ℕ) (y : A) → suc k < q → At (x ∷ l) q y → p y ≡ false
    later h zero y r e = absurd (omega arith)
    later h (suc q) y r e = h.last q y (omega arith) e

    behind : some? p l ≡ false → (q : ℕ) (y : A) → 0 < q → At (x ∷ l) q y → p y ≡ false
    behind h zero y r e = absurd (omega arith)
    behind h (suc q) y r e = none_at p l h q y e

    by : (o : Option (ℕ × A)) → RowFound p (suc n) l (o >>= λ x. Some x.0) → (t : Bool) → p x ≡ t
        → RowFound p n (x ∷ l) (o or_else when t (n, x) >>= λ x. Some x.0)
    by (Some y) (found k row r s h) t e =
        found (suc k) row (omega arith) (ap (λ (b : Bool). p x || b) s ∙ or-true (p x)) (record { item = h.item; is = h.is; holds = h.holds; last = later h })
    by None (nowhere s) true e = found 0 n (omega arith) (ap (λ (b : Bool). b || some? p l) e) (record { item = x; is = refl; holds = e; last = behind s })
    by None (nowhere s) false e = nowhere (ap (λ (b : Bool). b || some? p l) e ∙ s)
