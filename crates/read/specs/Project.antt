-- How many exceptions and links were left out, as 32 bits hold it, and how many durations were not whole minutes. Assumes nothing.
use Rattle.std.specs.Prelude.{◌%◌, ◌^◌, ◌≡◌, length}
use Rattle.definition.specs.Base.{keep}
use Rattle.definition.specs.Tree.{Element}
use Rattle.definition.specs.Calendar.{skipped}
use Rattle.definition.specs.Task.{context_of, is_fractional}
use Rattle.definition.specs.Link.{fates, is_dangling, is_across}
use Rattle.pack.specs.declared.record.Skips.{Skips}

pub record Skipped (root : Element) (r : Skips) : Type 0 where
  pub exceptions : r.skipped ≡ skipped root % 2 ^ 32
  pub dangling_is : r.dangling ≡ length (keep is_dangling (fates (context_of root))) % 2 ^ 32
  pub across_is : r.across ≡ length (keep is_across (fates (context_of root))) % 2 ^ 32
  pub fractional_is : r.fractional ≡ length (keep is_fractional (context_of root).tasks)
