use borrow.Author.Tests.{not-true, not-false}
use Rattle.std.proofs.Common.{ap, ◌∙◌}
use Rattle.tree.specs.Place.{meaning}
use Rattle.tree.specs.declared.element.Element.{Element as Place}
use Rattle.calendar_days.specs.Exceptions.{item_of}
use Rattle.calendar_days.proofs.Loops.{such_none, such_some}
use Rattle.calendar_days.proofs.RuleDays.{no_rule}
use Rattle.calendar_days.proofs.exceptions.such_days.Goals as goal

pub returns-then-not-are_such : goal.returns-then-not-are_such
returns-then-not-are_such g c =
    c.of.ensures ∙ no_rule ∙ such_none g.W.Wanted.such (item_of c.args.x) (c.are_such.ensures ∙ ap (λ (e : Place). g.W.Wanted.such (meaning e)) c.element.ensures) (not-true _ c.if-not-are_such.true-raw)

pub returns : goal.returns
returns g c =
    such_some g.W.Wanted.such (item_of c.args.x) (c.are_such.ensures ∙ ap (λ (e : Place). g.W.Wanted.such (meaning e)) c.element.ensures) (not-false _ c.if-not-are_such.false-raw) (c.of-2.ensures ∙ c.rule.ensures)
