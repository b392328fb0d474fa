-- What document 01 asks of every model that was read holds of each. Assumes nothing.
use Rattle.std.specs.Prelude.{◌≡◌, List, ℕ, ◌*◌, ◌≤◌, length}
use Rattle.std.specs.Prelude.{Some}
use Rattle.std.proofs.Common.{le-ltb}
use Rattle.definition.specs.Model.{Model}
use Rattle.definition.specs.Pack.{decode}
use Rattle.definition.specs.Outline.{outline}
use Rattle.definition.specs.Refusal.{gives, row_words, outline_answer}

-- with room enough the outline is given
pub outline_given : (l : List ℕ) (m : Model) → decode l ≡ Some m → (rows work : ℕ) → 2 * length m.activities ≤ rows → 4 * length m.activities ≤ work
    → outline_answer l rows work ≡ gives (row_words (outline m))
unfolding outline_answer
outline_given l m d rows work r w = rw (d, le-ltb rows (2 * length m.activities) r, le-ltb work (4 * length m.activities) w)
