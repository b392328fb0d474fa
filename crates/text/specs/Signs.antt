-- Whether a text begins with `-`, by its first byte. Assumes nothing.
use Rattle.std.specs.Prelude.{if◌then◌else◌, ◌≡◌, refl, [], ◌∷◌, Bool, true, false, ℕ, eqb, get_or}
use Rattle.std.proofs.Common.{ap, ◌∙◌, arith, eqb-true, ne_eqb}
use Rattle.definition.specs.Text.{Text, Sign, plus, minus, bare, sign_of}

abbrev pub minus? : Sign → Bool
minus? plus = false
minus? minus = true
minus? bare = false

minus_is : (s : Text) → eqb (get_or s 0 0) 45 ≡ minus? (sign_of s)
unfolding sign_of
minus_is [] = refl
minus_is (b ∷ s) = go (eqb b 43) (eqb b 45) (λ e. ne_eqb b 45 (λ z. omega (arith, eqb-true b 43 e)))
  where
    go : (x y : Bool) → (x ≡ true → y ≡ false) → y ≡ minus? (if x then plus else if y then minus else bare)
    go true y h = h refl
    go false true h = refl
    go false false h = refl

-- by the first byte, as the code has it
module _ (s : Text) (b : ℕ) (at : b ≡ get_or s 0 0) where
  pub minus_at : eqb b 45 ≡ minus? (sign_of s)
  minus_at = ap (λ (n : ℕ). eqb n 45) at ∙ minus_is s
