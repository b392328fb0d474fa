-- What follows the sign of a text, by its first byte. Assumes nothing.
use Rattle.std.proofs.Common.{◌≡◌, refl, arith, ne_eqb, inl, inr, [], ◌∷◌, ◌-◌, ◌≤◌, length, take, drop, get_or}
use Rattle.std.specs.Prelude.{◌⊎◌}
use Rattle.definition.specs.Text.{Text, sign_of}
use Rattle.definition.specs.Number.{unsigned}
use Rattle.text.specs.Parts.{all_of}

-- after a sign
pub signed : (s : Text) → 1 ≤ length s → (get_or s 0 0 ≡ 43) ⊎ (get_or s 0 0 ≡ 45) → take (length s - 1) (drop 1 s) ≡ unsigned (sign_of s) s
unfolding sign_of
signed [] h e = absurd (omega arith)
signed (b ∷ s) h (inl e) = rw e (all_of 1 (43 ∷ s))
signed (b ∷ s) h (inr e) = rw e (all_of 1 (45 ∷ s))

-- with none
pub bare_is : (s : Text) → (get_or s 0 0 ≡ 43 → ⊥) → (get_or s 0 0 ≡ 45 → ⊥) → s ≡ unsigned (sign_of s) s
unfolding sign_of
bare_is [] f g = refl
bare_is (b ∷ s) f g = rw (ne_eqb b 43 f, ne_eqb b 45 g) refl
