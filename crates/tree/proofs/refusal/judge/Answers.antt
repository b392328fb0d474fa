use mathlib.Core.Path.{sym, ◌∙◌}
use Rattle.tree.proofs.Passes.{ok_is, err_is, refused_1, refused_2, refused_3, refused_4, refused_5, taken}
use Rattle.std.proofs.lemmas.Result.{err_from_is_err_and}
use Rattle.tree.proofs.refusal.judge.Goals as goal

pub returns-then-not-all_utf8 : goal.returns-then-not-all_utf8
returns-then-not-all_utf8 c = refused_2 _ (sym c.layout.ensures ∙ ok_is _ _ (sym c.ok_or.ensures.value ∙ c.in_ok-count.was)) (sym c.all_utf8.ensures ∙ c.if-not-all_utf8.true)

pub returns-then-count-gt-MOST_ELEMENTS : goal.returns-then-count-gt-MOST_ELEMENTS
returns-then-count-gt-MOST_ELEMENTS c = refused_3 _ (sym c.layout.ensures ∙ ok_is _ _ (sym c.ok_or.ensures.value ∙ c.in_ok-count.was)) (sym c.all_utf8.ensures ∙ c.if-not-all_utf8.false) c.if-count-gt-MOST_ELEMENTS.true

pub returns-then-not-name_is : goal.returns-then-not-name_is
returns-then-not-name_is c = refused_4 _ (sym c.layout.ensures ∙ ok_is _ _ (sym c.ok_or.ensures.value ∙ c.in_ok-count.was)) (sym c.all_utf8.ensures ∙ c.if-not-all_utf8.false) c.if-count-gt-MOST_ELEMENTS.false (sym c.name_is.ensures ∙ c.if-not-name_is.true)

pub returns-then-any_long : goal.returns-then-any_long
returns-then-any_long c = refused_5 _ (sym c.layout.ensures ∙ ok_is _ _ (sym c.ok_or.ensures.value ∙ c.in_ok-count.was)) (sym c.all_utf8.ensures ∙ c.if-not-all_utf8.false) c.if-count-gt-MOST_ELEMENTS.false (sym c.name_is.ensures ∙ c.if-not-name_is.false) (sym c.any_long.ensures ∙ c.if-any_long.true)

pub returns-in_err-count : goal.returns-in_err-count
returns-in_err-count c =
    let p = err_from_is_err_and c.from_residual.result c.from_residual.ensures.1 in
    let e = err_is _ _ (sym c.ok_or.ensures.value ∙ c.in_err-count.was) in
    rw (p.1, p.2, e.1) (refused_1 _ (sym c.layout.ensures ∙ e.0))

pub returns : goal.returns
returns c = taken _ (sym c.layout.ensures ∙ ok_is _ _ (sym c.ok_or.ensures.value ∙ c.in_ok-count.was)) (sym c.all_utf8.ensures ∙ c.if-not-all_utf8.false) c.if-count-gt-MOST_ELEMENTS.false (sym c.name_is.ensures ∙ c.if-not-name_is.false) (sym c.any_long.ensures ∙ c.if-any_long.false)
