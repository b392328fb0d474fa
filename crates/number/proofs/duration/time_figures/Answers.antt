use Rattle.std.proofs.Common.{◌+◌, ◌-◌, length, take, drop, length-take, length-drop, sym, ap, ◌∙◌, arith, rules, []}
use Rattle.definition.specs.Duration.{time_figures}
use Rattle.definition.specs.declared.Figures.{Figures}
use Rattle.number.proofs.Figures.{err_then, read, no_unit, all_read}
use Rattle.std.proofs.lemmas.Result.{err_from_is_err_and}
use Rattle.number.proofs.duration.time_figures.Goals as goal

pub returns-in_err-piece_of : goal.returns-in_err-piece_of
returns-in_err-piece_of c =
    let l = c.loop-u in
    let p = err_from_is_err_and c.from_residual.result c.from_residual.ensures.1 in
    rw (p.1, p.2) (err_then _ _ ∙ read l.rest.now c.in-Some.u l.f c.in-Some.ensures c.piece_of.result c.piece_of.ensures c.in_err-piece_of.was ∙ l.invariant.1)

pub loop-u-preserved : goal.loop-u-preserved
loop-u-preserved c =
    let l = c.loop-u in
    let s = l.rest.now in
    let u = c.in-Some.u in
    let k = length-take (length s - (u + 1)) (drop (u + 1) s) in
    let d = length-drop (u + 1) s in (
      omega (arith, k, d, l.invariant.0),
      ap (λ (g : Figures). time_figures (take (length s - (u + 1)) (drop (u + 1) s)) [] g) c.set_unit-f.ensures
          ∙ read s u l.f c.in-Some.ensures c.piece_of.result c.piece_of.ensures c.in_ok-piece_of.was
          ∙ l.invariant.1,
    )

pub returns-then-is_empty : goal.returns-then-is_empty
returns-then-is_empty c = sym (all_read c.loop-u.rest.now c.loop-u.f (search rules)) ∙ c.loop-u.invariant.1

pub returns-else-is_empty : goal.returns-else-is_empty
returns-else-is_empty c = sym (no_unit c.loop-u.rest.now c.loop-u.f (search rules) (search rules)) ∙ c.loop-u.invariant.1
