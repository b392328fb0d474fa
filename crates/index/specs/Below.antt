-- Words that agree below a number, whatever stands behind. Assumes nothing.
use Rattle.std.specs.Prelude.{◌≡◌, refl, List, ℕ, min, ◌≤◌, ◌<◌, length, get_or, take}
use Rattle.std.proofs.Common.{sym, ap, ◌∙◌, arith, length-take, get_or-take, ext_get_or}
use Rattle.index.specs.declared.Table.{Table}
use Rattle.index.specs.Chains.{zeros, added, end_of}
use Rattle.index.specs.Steps.{length_zeros}
use Rattle.index.specs.Law.{length_added}
use Rattle.index.specs.Frame.{before, added_outside, zeros_outside, SameIn}

pub record SameBelow (n : ℕ) (w w' : List ℕ) : Type 0 where
  pub long : length w' ≡ length w
  pub words : (j : ℕ) → j < n → get_or w' j 0 ≡ get_or w j 0

pub below_refl : (n : ℕ) (w : List ℕ) → SameBelow n w w
below_refl n w = record { long = refl; words = λ j h. refl }

pub below_then : {n : ℕ} {a b c : List ℕ} → SameBelow n a b → SameBelow n b c → SameBelow n a c
below_then p q = record { long = q.long ∙ p.long; words = λ j h. q.words j h ∙ p.words j h }

-- ---- stores behind

pub below_added : {n : ℕ} (t : Table) (w : List ℕ) (row h place : ℕ) → n ≤ t.at → SameBelow n w (added w t row h place)
below_added t w row h place k =
    record { long = length_added w t row h place; words = λ j i. added_outside w t row h place j (before t (omega arith)) }

pub below_zeros : {n : ℕ} (t : Table) (w : List ℕ) → n ≤ t.at → SameBelow n w (zeros w t.at t.rows)
below_zeros t w k =
    record { long = length_zeros w t.at t.rows; words = λ j i. zeros_outside w t j (before t (omega arith)) }

-- ---- what stands below

module _ {n : ℕ} {w w' : List ℕ} (s : SameBelow n w w') where
  pub below_in : {t : Table} → end_of t ≤ n → SameIn t w w'
  below_in h = record { long = s.long; words = λ j a b. s.words j (omega arith) }

  pub below_take : take n w' ≡ take n w
  below_take =
      let long : length (take n w') ≡ length (take n w) = length-take n w' ∙ ap (min n) s.long ∙ sym (length-take n w) in
      ext_get_or 0 (take n w') (take n w) long (λ j h. let k : j < n = omega (arith, length-take n w') in get_or-take n w' j 0 k ∙ s.words j k ∙ sym (get_or-take n w j 0 k))
