use Rattle.std.proofs.Common.{ℕ, ◌+◌, sym, ap, ◌∙◌}
use Rattle.std.specs.Prelude.{Some}
use Rattle.definition.specs.Number.{magnitude}
use Rattle.number.specs.Number.{decimal, scaled_by}
use Rattle.number.proofs.Limits.{few_same}
use Rattle.number.proofs.decimal.scale.Goals as goal

pub returns-in-Down : goal.returns-in-Down
returns-in-Down c =
    let a = c.args in
    c.judge-in-Down.ensures
    ∙ ap (λ (n : ℕ). magnitude (Some (decimal a.v 0 (a.places + n)))) c.min.ensures
    ∙ few_same a.v a.places c.in-Down.n
    ∙ sym (ap (scaled_by a.v a.places) c.in-Down.is)
