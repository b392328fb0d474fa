use Rattle.std.proofs.Common.{ap, ◌∙◌, sym, rules}
use Rattle.fields.specs.Answers.{unsigned_or}
use Rattle.fields.proofs.Unsigned.{held}
use Rattle.fields.proofs.value.unsigned_or.Goals as goal

pub returns-in-Some : goal.returns-in-Some
returns-in-Some c =
    c.unwrap_or.ensures
    ∙ held c.args.below c.args.absent c.in-Some.n c.try_from.result (search rules) c.try_from.ensures
    ∙ ap (unsigned_or c.args.below c.args.absent) (sym c.in-Some.is)

pub returns-in-None : goal.returns-in-None
unfolding unsigned_or
returns-in-None c = rw c.in-None.is
