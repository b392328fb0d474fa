use Rattle.std.proofs.Common.{arith}
use Rattle.std.proofs.lemmas.Int.{ints}
use Rattle.date.specs.Answer.{upward, days_between}
use lib.IntN.{◌-ℤ◌}
use mir.Syntax.{w64}
use mir.Val.{to_z, of_z}
use mathlib.Core.Path.{◌≡◌, ◌∙◌, ap}
use Rattle.date.proofs.Signs.{between}
use Rattle.date.proofs.days_between.Goals as goal

pub returns : goal.returns
unfolding days_between
returns c =
    let e : to_z w64 (of_z w64 (to_z w64 (of_z w64 c.from.result) -ℤ to_z w64 (of_z w64 c.from-2.result))) ≡ c.args.b.0 -ℤ c.args.a.0 = omega (arith, ints) in
    c.unwrap_or.ensures ∙ between c.try_from.result _ (λ n g. omega (arith, ints)) c.try_from.ensures ∙ ap upward e
