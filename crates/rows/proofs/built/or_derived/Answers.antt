use Rattle.std.proofs.Common.{sym, ◌∙◌}
use Rattle.definition.specs.Ascii.{bytes}
use Rattle.tree.specs.Root.{root_at, in_calendars}
use Rattle.rows.specs.Turns.{picks_same}
use Rattle.rows.proofs.Walking.{after_some, after_none, none_if}
use Rattle.rows.proofs.built.or_derived.Goals as goal

pub returns-then-is_some : goal.returns-then-is_some
returns-then-is_some c = after_some (root_at c.args.root) c.args.plain (sym c.is_some.ensures ∙ c.if-is_some.true)

pub returns : goal.returns
returns c =
    let root = c.args.root in
    after_none (root_at root) root.calendars (none_if _ (sym c.is_some.ensures ∙ c.if-is_some.false)) (picks_same (in_calendars root (bytes "Calendar")) (rw c.part.ensures at c.first_which.ensures))
