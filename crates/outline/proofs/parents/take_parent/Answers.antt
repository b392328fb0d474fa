-- `outline::parents::take_parent` meets its contract. The row at the place of the parent, and the place behind all fields. Assumes nothing.
use mathlib.Core.Path.{ap, ◌∙◌}
use mathlib.Core.Bool.{true}
use Rattle.std.specs.Prelude.{Option, None}
use Prim.Native.Nat.{ℕ}
use Rattle.bits.specs.declared.Place.{Place}
use Rattle.model.specs.Passes.{pass_read}
use Rattle.model.specs.Answers.{tails_row, or_reads}
use Rattle.model.specs.Splits.{stands_or}
use Rattle.model.specs.Places.{activity_parent, activity_passed}
use Rattle.outline.specs.Steps.{word_of}
use Rattle.outline.proofs.parents.take_parent.Goals as goal

pub returns : goal.returns
returns c =
    let b = c.parent_place_by-at.ensures in
    let e = c.take_row-parent.ensures in
    let x = activity_passed true b (pass_read (or_reads tails_row None _ _ e)) c.skip_from_notes-end.ensures c.take_pad-next.ensures in
    record {
      word = λ a h. c.word_of.ensures ∙ ap word_of (ap (λ (x : Option ℕ × Place). x.0) e ∙ stands_or (activity_parent h true b) None);
      next = x.0;
    }
