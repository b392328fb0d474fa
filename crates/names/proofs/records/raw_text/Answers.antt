use mathlib.Core.Path.{◌∙◌}
use native.Mathlib.Omega.{arith}
use Rattle.names.specs.Seen.{bytes_of_lem, raw_spanned}
use Rattle.names.proofs.records.raw_text.Goals as goal

pub returns : goal.returns
returns c =
    let a = c.args in
    c.text_in.ensures ∙ raw_spanned a.out.now a.p (bytes_of_lem a.out.now (λ i. omega (arith, (c.type_inv.out i).fits))) c.take_text.ensures.is
