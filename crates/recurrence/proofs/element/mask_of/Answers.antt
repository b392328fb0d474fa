use Rattle.std.proofs.Common.{ap, ◌∙◌, ℕ, ◌%◌, rules}
use Rattle.recurrence.proofs.Fields.{low_bits}
use Rattle.recurrence.proofs.element.mask_of.Goals as goal

pub returns : goal.returns
returns c = ap (λ (n : ℕ). n % 128) c.cast_unsigned.ensures ∙ low_bits c.args.a c.unwrap_or.result (search rules) c.unwrap_or.ensures
