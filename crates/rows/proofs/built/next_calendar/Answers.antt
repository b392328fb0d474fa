use Rattle.std.proofs.Common.{sym, ◌∙◌, ◌+◌}
use Rattle.tree.specs.Root.{root_at}
use Rattle.rows.specs.Turns.{past_all}
use Rattle.rows.proofs.Walking.{room_next, room_on, order_over, order_plain}
use Rattle.rows.proofs.built.next_calendar.Goals as goal

pub returns-then-has_base-clause-is : goal.returns-then-has_base-clause-is
returns-then-has_base-clause-is c =
    order_over (root_at c.args.root) c.args.e (sym c.has_base.ensures ∙ c.if-has_base.true) c.next_which.ensures

pub returns-then-has_base-clause-there : goal.returns-then-has_base-clause-there
returns-then-has_base-clause-there c = λ e. past_all _ _ _ (rw e at c.next_which.ensures.there)

pub returns-then-has_base-clause-few : goal.returns-then-has_base-clause-few
returns-then-has_base-clause-few c =
    room_next c.args.root.tree.now c.args.e (sym c.has_base.ensures ∙ c.if-has_base.true) c.next_which.ensures

pub returns-clause-is : goal.returns-clause-is
returns-clause-is c =
    order_plain (root_at c.args.root) c.args.e (sym c.has_base.ensures ∙ c.if-has_base.false) c.next_which-2.ensures c.or_derived.ensures

pub returns-clause-there : goal.returns-clause-there
returns-clause-there c = λ e. c.or_derived.ensures.there (past_all _ _ _ (rw e at c.next_which-2.ensures.there))

pub returns-clause-few : goal.returns-clause-few
returns-clause-few c =
    let e = c.args.e in
    let few = c.or_derived.ensures.few e.tree.now (e.at + 1) c.next_which-2.ensures.there in
    room_on c.args.root.tree.now e c.or_derived.result (sym c.has_base.ensures ∙ c.if-has_base.false) few
