-- A text with `*` behind it. Assumes nothing.
use Rattle.std.specs.Prelude.{◌≡◌, ◌++◌, ℕ, ◌+◌, length, replicate}
use Rattle.std.proofs.Common.{◌∙◌, length-append}
use Rattle.std.proofs.lemmas.List.{length-replicate}
use Rattle.definition.specs.Text.{Text}

abbrev pub starred_by : Text → ℕ → Text
starred_by s stars = s ++ replicate stars 42

pub star_length : (s : Text) (k : ℕ) → length (starred_by s k) ≡ length s + k
star_length s k = length-append s (replicate k 42) ∙ rw length-replicate
