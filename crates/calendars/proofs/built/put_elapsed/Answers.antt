use Rattle.std.proofs.Common.{sym, refl, ◌∙◌}
use Rattle.bits.specs.Steps.{put_same}
use Rattle.tree.specs.Root.{root_at}
use Rattle.calendars.proofs.Builts.{elapsed_put}
use Rattle.calendars.proofs.PlainCalendars.{elapsed_is}
use Rattle.calendars.proofs.built.put_elapsed.Goals as goal

pub returns-then-any_elapsed : goal.returns-then-any_elapsed
returns-then-any_elapsed c = rw c.more.ensures (elapsed_put (root_at c.args.root) (sym c.any_elapsed.ensures ∙ c.if-any_elapsed.true) (put_same elapsed_is c.put_plain_calendar-next.ensures) refl)
