use mathlib.Core.Path.{◌≡◌, ap, subst⁻¹, ◌∙◌}
use Prim.Native.Nat.{ℕ, max}
use mathlib.Core.List.{[]}
use lib.Dec.{leb}
use Rattle.std.specs.Prelude.{Option, MatchOption}
use Rattle.std.proofs.Common.{rules, tests}
use Rattle.definition.specs.Base.{◌>>=◌, when}
use Rattle.recurrence.specs.Meaning.{coming, Comes}
use Rattle.recurrence.proofs.Going.{none_left, past_last, found}
use Rattle.recurrence.proofs.sequence.day_from.Goals as goal
use Rattle.recurrence.proofs.sequence.day_from.Goals.{then-c-eq0-via-then-c-eq0, then-c-eq0-via-else-c-eq0+then-r-at}

pub returns-then-c-eq0 : goal.returns-then-c-eq0
returns-then-c-eq0 c =
    let r = c.args.r in
    elim c.then-c-eq0.branch [
      | then-c-eq0-via-then-c-eq0 w ↦ none_left r c.args.c w.if-c-eq0.true
      | then-c-eq0-via-else-c-eq0+then-r-at w ↦ past_last r c.args.c c.max-at.result (c.max-at.ensures ∙ ap (max r.from) c.count_of.ensures) w.if-r-at.true
    ]

pub returns : goal.returns
returns c =
    let r = c.args.r in
    let kept : c.filter.result ≡ (c.first_fit.result >>= λ x. when (leb x r.last) x) = search (rules, tests) in
    subst⁻¹ (λ (o : Option ℕ). MatchOption o (coming r c.args.c ≡ []) (λ x. Comes r c.args.c x)) kept
    (found r c.args.c c.max-at.result (c.max-at.ensures ∙ ap (max r.from) c.count_of.ensures) c.if-c-eq0.false c.first_fit.result c.first_fit.ensures)
