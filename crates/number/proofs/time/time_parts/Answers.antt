use Rattle.std.proofs.Common.{sym, refl, ap, ◌∙◌}
use Rattle.std.specs.Prelude.{Some, None}
use Rattle.definition.specs.Text.{unsigned_of}
use Rattle.definition.specs.Time.{is_colon}
use Rattle.number.proofs.Parts.{cut_or}
use Rattle.number.proofs.Times.{parts}
use Rattle.number.proofs.time.time_parts.Goals as goal

pub returns-in_err-whole_of : goal.returns-in_err-whole_of
returns-in_err-whole_of c =
    let q = cut_or is_colon c.args.s.now c.cut_at.result _ _ c.unwrap_or.ensures refl c.cut_at.ensures in
    c.from_residual.ensures ∙ parts c.args.s.now _ _ None _ q.0 q.1 (sym c.in_err-whole_of.was ∙ c.whole_of.ensures) refl

pub returns-in_err-whole_of-2 : goal.returns-in_err-whole_of-2
returns-in_err-whole_of-2 c =
    let q = cut_or is_colon c.args.s.now c.cut_at.result _ _ c.unwrap_or.ensures refl c.cut_at.ensures in
    c.from_residual-in_err-whole_of-2.ensures
    ∙ parts c.args.s.now _ _ (Some _) None q.0 q.1 (sym c.in_ok-whole_of.was ∙ c.whole_of.ensures) (sym c.in_err-whole_of-2.was ∙ c.whole_of-2.ensures ∙ ap (unsigned_of 16) c.before-2.ensures)

pub returns : goal.returns
returns c =
    let q = cut_or is_colon c.args.s.now c.cut_at.result _ _ c.unwrap_or.ensures refl c.cut_at.ensures in
    c.time_at.ensures
    ∙ parts c.args.s.now _ _ (Some _) (Some _) q.0 q.1 (sym c.in_ok-whole_of.was ∙ c.whole_of.ensures) (sym c.in_ok-whole_of-2.was ∙ c.whole_of-2.ensures ∙ ap (unsigned_of 16) c.before-2.ensures)
