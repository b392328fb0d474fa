use mathlib.Core.Path.{sym, ◌∙◌}
use native.Mathlib.Omega.{arith}
use borrow.Author.Tests.{not-true, not-false}
use Rattle.read.proofs.Same.{all_same}
use Rattle.read.proofs.Whole.{fills_short, fills_written}
use Rattle.read.proofs.put_model.Goals as goal

pub returns-then-not-inside : goal.returns-then-not-inside
returns-then-not-inside c =
    fills_short (all_same (record { tree = c.args.tree; at = 0 }) c.root_of-root.ensures.tree c.root_of-root.ensures.parts c.put_all-n.ensures) (sym c.inside.ensures ∙ not-true _ c.if-not-inside.true-raw) (c.fill.ensures.after (λ y e. e))

pub returns : goal.returns
returns c =
    fills_written (all_same (record { tree = c.args.tree; at = 0 }) c.root_of-root.ensures.tree c.root_of-root.ensures.parts c.put_all-n.ensures) (sym c.inside.ensures ∙ not-false _ c.if-not-inside.false-raw) c.close_counts.ensures (λ i. omega (arith, c.slice_known-5-1.given i)) c.fill_from.ensures
