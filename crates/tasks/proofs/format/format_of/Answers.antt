use mathlib.Core.Path.{ap, ◌∙◌}
use Prim.Native.Nat.{ℕ}
use Rattle.definition.specs.Task.{unmarked}
use Rattle.fields.specs.Answers.{unsigned_or_0}
use Rattle.tasks.proofs.format.format_of.Goals as goal

pub returns : goal.returns
returns c =
    let e = c.without_mark.ensures ∙ ap (λ (n : ℕ). unmarked n) (c.unsigned_in.ensures ∙ unsigned_or_0 0 _) in
    rw e at c.from.ensures
