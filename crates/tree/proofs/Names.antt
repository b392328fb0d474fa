-- Texts that begin with other bytes. Assumes nothing.
use Rattle.std.specs.Prelude.{◌≡◌, get_or, [], ◌∷◌}
use Rattle.std.proofs.Common.{false, refl}
use borrow.Author.Tests.{ne_eqb}
use Rattle.definition.specs.Base.{same}
use Rattle.definition.specs.Text.{Text}

pub other_at : (a b : Text) → (get_or a 0 0 ≡ get_or b 0 0 → ⊥) → same a b ≡ false
unfolding same
other_at [] [] h = absurd (h refl)
other_at [] (y ∷ b) h = refl
other_at (x ∷ a) [] h = refl
other_at (x ∷ a) (y ∷ b) h = rw (ne_eqb x y h)
