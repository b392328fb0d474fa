use mathlib.Core.Path.{◌∙◌}
use Rattle.model_check.proofs.Right.{no_name, a_name}
use Rattle.model_check.proofs.rules.calendar_known.Goals as goal

pub returns-in-Some : goal.returns-in-Some
returns-in-Some c = λ m end d x o h. c.is_calendar.ensures m end d x ∙ a_name m h c.take_name.ensures _ c.in-Some.is

pub returns-in-None : goal.returns-in-None
returns-in-None c = λ m end d x o h. no_name m h c.take_name.ensures c.in-None.is
