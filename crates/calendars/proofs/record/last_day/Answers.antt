use Rattle.std.proofs.Common.{refl, sym, ap, ◌∙◌}
use Rattle.std.specs.Prelude.{Option}
use Rattle.definition.specs.Ascii.{bytes}
use Rattle.definition.specs.Base.{find_last}
use Rattle.definition.specs.Tree.{Element, all_in}
use Rattle.tree.specs.Answer.{found_child, none_child}
use Rattle.tree.specs.Place.{meaning, left}
use Rattle.rows.specs.Rows.{found_meaning}
use Rattle.rows.proofs.Lasts.{last_begin, last_turn, last_end}
use Rattle.calendars.specs.Record.{on_place}
use Rattle.calendars.proofs.record.last_day.Goals as goal

pub returns-in_err-child : goal.returns-in_err-child
unfolding found_meaning find_last
returns-in_err-child c =
    rw c.from_residual.ensures (sym (ap (λ (o : Option Element). find_last (on_place c.args.day) (all_in o (bytes "WeekDay"))) (none_child (meaning c.args.e) c.child.ensures c.in_err-child.was)))

pub loop-d-init : goal.loop-d-init
loop-d-init c = last_begin _ refl

pub loop-d-preserved : goal.loop-d-preserved
loop-d-preserved c = last_turn c.loop-d.invariant _ c.in-Some.ensures.steps c.is_of.ensures c.then_some-named.ensures c.or-found.ensures

pub returns : goal.returns
returns c =
    last_end c.loop-d.invariant c.in-None.ensures.steps.0
    ∙ ap (find_last (on_place c.args.day)) (ap left c.into_iter-d-iterator.ensures.into_iter_gives ∙ c.children-d-items.ensures ∙ sym (ap (λ (o : Option Element). all_in o (bytes "WeekDay")) (found_child (meaning c.args.e) c.child.ensures c.in_ok-child.was)))
