-- `names::calendars::CalendarNames::unless_main` meets its contract. Assumes nothing.
use mathlib.Core.Path.{ap, ◌∙◌}
use Rattle.std.specs.Prelude.{Option}
use Prim.Native.Nat.{ℕ}
use Rattle.pack.specs.Value.{name_meaning}
use Rattle.tree.specs.Root.{root_at}
use Rattle.names.proofs.Found.{unless_by}
use Rattle.names.proofs.calendars.CalendarNames.unless_main.Goals as goal

pub returns : goal.returns
returns c =
    let a = c.args in
    ap (λ (o : Option ℕ). name_meaning a.text.now o) c.then_some.ensures ∙ unless_by a.self.out.now a.self.start (root_at a.self.root) a.text.now a.stars c.is_main.ensures
