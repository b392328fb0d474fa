use Rattle.std.proofs.Common.{rules}
use mathlib.Core.Path.{◌≡◌, sym, ap, ◌∙◌}
use Rattle.std.specs.Prelude.{Option}
use Rattle.definition.specs.Base.{◌>>=◌}
use Rattle.definition.specs.Text.{Text}
use Rattle.definition.specs.Number.{number_of, found}
use Rattle.definition.specs.Field.{number_in}
use Rattle.tree.specs.Place.{element_at}
use Rattle.tree.specs.Root.{own_text, root_at, minutes_per_day}
use Rattle.tree.specs.declared.root.Root.{Root}
use Rattle.tasks.proofs.task.per_day.Goals as goal

number_is : (root : Root) → (own_text (element_at root.tree.now root.minutes) >>= λ t. found (number_of t)) ≡ number_in (root_at root) "MinutesPerDay"
unfolding number_in
number_is root = ap (λ (o : Option Text). o >>= λ t. found (number_of t)) (sym (minutes_per_day root))

pub returns : goal.returns
returns c = rw (sym ((rw c.part.ensures at c.number_at.ensures) ∙ number_is c.args.root)) (search rules)
