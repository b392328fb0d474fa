use borrow.Author.Tests.{not-true, not-false}
use Rattle.std.proofs.Common.{◌≡◌, not, sym, ◌∙◌, arith}
use Rattle.std.proofs.lemmas.Bool.Decides.{nat_tests}
use Rattle.definition.specs.Format.{dates}
use Rattle.model.specs.Rising.{day_of, day_before}
use Rattle.calendar_days.specs.Lists.{not_behind}
use Rattle.calendar_days.proofs.WholeDays.{base_cut, base_behind, base_stands}
use Rattle.calendar_days.proofs.base.base_at.Goals.{then-not-inside-via-then-not-inside, then-not-inside-via-else-not-inside+then-lt}
use Rattle.calendar_days.proofs.base.base_at.Goals as goal

pub returns-then-not-inside : goal.returns-then-not-inside
unfolding dates day_of day_before
returns-then-not-inside c =
    let p = c.args.p in
    elim c.then-not-inside.branch [
      | then-not-inside-via-then-not-inside w ↦ base_cut p c.skip_days-extra.ensures c.skip_days-exceptions.ensures c.skip_days-end.ensures (sym c.inside.ensures ∙ w.if-not-inside.true)
      | then-not-inside-via-else-not-inside+then-lt w ↦
          let e : w.lt.result ≡ not (not_behind c.skip_days-end.result p) = w.lt.ensures ∙ grind (arith, nat_tests) in
          base_behind p c.skip_days-extra.ensures c.skip_days-exceptions.ensures c.skip_days-end.ensures (sym c.inside.ensures ∙ w.if-not-inside.false) (not-true _ (sym e ∙ w.if-lt.true))
    ]

pub returns : goal.returns
unfolding dates day_of day_before
returns c =
    let p = c.args.p in
    let e : c.lt.result ≡ not (not_behind c.skip_days-end.result p) = c.lt.ensures ∙ grind (arith, nat_tests) in
    base_stands p c.skip_days-extra.ensures c.skip_days-exceptions.ensures c.skip_days-end.ensures (sym c.inside.ensures ∙ c.if-not-inside.false) (not-false _ (sym e ∙ c.if-lt.false))
