-- What the program writes: so many bytes from the front of its room of 65,536. Assumes nothing.
use Rattle.std.specs.Prelude.{ℕ, ◌≡◌, List, length, take}
use Rattle.definition.specs.Text.{Text}
use Rattle.definition.specs.Refusal.{most_program_bytes, program_writes}

abbrev pub Writes : Text → List ℕ → List ℕ → ℕ → Type 0
Writes tree room room' r = length room ≡ most_program_bytes → take r room' ≡ program_writes tree
