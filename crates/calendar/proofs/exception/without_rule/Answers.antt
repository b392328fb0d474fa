use Rattle.std.proofs.Common.{rules, tests, refl, not, ◌≡◌, ◌<◌, ◌+◌, ◌^◌, length, ap, ◌∙◌, arith}
use mathlib.Core.Logic.{inl}
use Rattle.std.proofs.lemmas.Iterator.Consumers.{count_from_yields_List, YieldsList-from_filter}
use Rattle.definition.specs.Base.{given}
use Rattle.definition.specs.Ascii.{bytes}
use Rattle.definition.specs.Tree.{all}
use Rattle.definition.specs.Recurrence.{recurrence_days}
use Rattle.tree.specs.Place.{meaning, left}
use Rattle.tree.specs.Few.{children_few}
use Rattle.tree.specs.Lists.{children_list}
use Rattle.calendar.specs.Skipped.{without_rule}
use Rattle.calendar.proofs.Counts.{filtered}
use Rattle.calendar.proofs.exception.without_rule.Goals.{After-count-n}
use Rattle.calendar.proofs.exception.without_rule.Goals as goal

counted : (c : After-count-n) → c.count-n.result ≡ without_rule (all (meaning c.args.e) (bytes "Exception"))
unfolding without_rule
counted c =
    count_from_yields_List _ _ c.count-n.ensures.ran (YieldsList-from_filter _ (λ x. not (given (recurrence_days x))) (children_list c.filter.result.iter) refl (λ x b q k. search (rules, tests)))
    ∙ ap length (filtered _ _)
    ∙ ap without_rule (ap left c.filter.ensures.source ∙ c.children.ensures)

pub count-n-requires-clause-fits : goal.count-n-requires-clause-fits
count-n-requires-clause-fits c =
    let e = c.args.e in
    let room : 0 + length (left c.filter.result.iter) < 2 ^ 64 = omega (arith, ap length (ap left c.filter.ensures.source ∙ c.children.ensures), children_few e.tree.now e.at (bytes "Exception"), c.ranges) in
    inl room

pub returns : goal.returns
returns c = rw (counted (goal.at.returns c).After-count-n) search rules
