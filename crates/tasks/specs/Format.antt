-- What a format says. Assumes nothing.
use Rattle.std.specs.Prelude.{ℕ, ◌≡◌, Bool, true, false}
use Rattle.definition.specs.Task.{percent_format, elapsed_format}
use Rattle.tasks.specs.declared.format.Format.{Format}
use Rattle.tasks.specs.declared.format.Format.TheVariants as format

abbrev pub of_percent : Format → Bool
of_percent format.Working = false
of_percent format.Elapsed = false
of_percent format.Percent = true
of_percent format.ElapsedPercent = true

abbrev pub of_elapsed : Format → Bool
of_elapsed format.Working = false
of_elapsed format.Elapsed = true
of_elapsed format.Percent = false
of_elapsed format.ElapsedPercent = true

-- the format of a code without the mark of an estimate
pub record IsFormat (code : ℕ) (f : Format) : Type 0 where
  pub percent : of_percent f ≡ percent_format code
  pub elapsed : of_elapsed f ≡ elapsed_format code
