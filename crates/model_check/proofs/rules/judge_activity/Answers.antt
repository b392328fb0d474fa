-- `model_check::rules::judge_activity` meets its contract. Assumes nothing.
use mathlib.Core.Path.{ap, ◌∙◌}
use mathlib.Core.Bool.{true}
use Rattle.std.specs.Prelude.{Option, None}
use Prim.Native.Nat.{ℕ}
use lib.Dec.{ltb}
use Rattle.definition.specs.Check.{if_given, activity_right}
use Rattle.model.specs.Passes.{pass_read}
use Rattle.model.specs.Answers.{tails_row, or_reads}
use Rattle.model.specs.Places.{activity_parent, activity_passed}
use Rattle.model_check.proofs.Right.{parent_right}
use Rattle.model_check.proofs.Walking.{calendar_behind}
use Rattle.model_check.proofs.Whole.{both}
use Rattle.model_check.proofs.rules.judge_activity.Goals as goal

pub returns : goal.returns
unfolding activity_right
returns c =
    let b = c.parent_place_by.ensures in
    let e = c.take_row-parent.ensures in
    let own = c.args.own in
    let r = pass_read (or_reads tails_row None _ _ e) in
    let x = activity_passed true b r c.skip_from_notes-end.ensures c.take_pad-next.ensures in
    record {
      right = λ m end d n a h.
          both (c.is_below.ensures ∙ ap (λ (o : Option ℕ). if_given (λ (n : ℕ). ltb n own) o) (parent_right (activity_parent h true b) e))
          (c.calendar_known-known.ensures m end d n a.calendar (calendar_behind h b r c.take_text.ensures));
      next = x.0;
      even = x.1;
    }
