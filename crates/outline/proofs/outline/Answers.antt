-- `outline::outline` meets its contract. The rows of a model with room for them; else both slices are cleared. Assumes nothing.
use Rattle.outline.proofs.Models.{gives_rows, gives_short, gives_no_model}
use Rattle.outline.proofs.outline.Goals as goal
use Rattle.outline.proofs.outline.Goals.{in-None, in-Some}

pub returns-in-Some-2 : goal.returns-in-Some-2
returns-in-Some-2 c = gives_rows c.take_counts-counts.ensures c.walk_model-places.ensures c.sections_of.ensures c.in-Some.is c.is_short.ensures c.if-is_short.false c.outline_rows.ensures

pub returns : goal.returns
returns c =
    elim c.match-sections_of.branch [
      | in-None w ↦ rw w.refusal-is (gives_no_model c.take_counts-counts.ensures c.walk_model-places.ensures c.sections_of.ensures (c.fill.ensures.after (λ y e. e)) (c.fill-2.ensures.after (λ y e. e)) w.in-None.is)
      | in-Some w ↦ rw w.refusal-is (gives_short c.take_counts-counts.ensures c.walk_model-places.ensures c.sections_of.ensures w.in-Some.is w.is_short.ensures (c.fill.ensures.after (λ y e. e)) (c.fill-2.ensures.after (λ y e. e)) w.if-is_short.true)
    ]
