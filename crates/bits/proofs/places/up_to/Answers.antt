use mathlib.Core.Path.{sym, ◌∙◌}
use borrow.Author.Tests.{le-ltb}
use Rattle.std.proofs.lemmas.Bool.Decides.{nat_tests}
use Rattle.bits.specs.Places.{up_to}
use Rattle.bits.proofs.Laws.{up_not}
use native.Mathlib.Omega.{arith}
use Rattle.bits.proofs.places.up_to.Goals as goal

pub returns-then-p-lt8 : goal.returns-then-p-lt8
unfolding up_to
returns-then-p-lt8 c = c.le.ensures ∙ grind (arith, nat_tests)

pub returns-else-p-lt8 : goal.returns-else-p-lt8
returns-else-p-lt8 c = le-ltb c.args.p.bit 8 (omega arith) ∙ sym (up_not c.args.p c.args.q (λ b. omega arith))
