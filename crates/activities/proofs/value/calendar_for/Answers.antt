use Rattle.std.proofs.Common.{rules, tests, ◌≡◌, not, Some, ap, ◌∙◌}
use Rattle.definition.specs.Ascii.{bytes}
use Rattle.definition.specs.Base.{◌>>=◌, same, when}
use Rattle.activities.proofs.Values.{kept_text}
use Rattle.activities.proofs.value.calendar_for.Goals as goal

pub returns : goal.returns
returns c =
    let kept : (c.text_in.result >>= λ u. when (not (same u.now (bytes "-1"))) u) ≡ Some c.in_ok-uid.uid = search (rules, tests) in
    ap Some c.starred.ensures ∙ c.in_ok-name.ensures.is ∙ rw c.if-elapsed.false (kept_text (λ u. u.now) (λ u. not (same u (bytes "-1"))) _ c.text_in.result c.text_in.ensures kept)
