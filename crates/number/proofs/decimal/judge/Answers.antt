use Rattle.std.proofs.Common.{sym, ap, ◌∙◌, arith, rules}
use Rattle.std.specs.Prelude.{Ok}
use lib.Ieee.{of_bits}
use Rattle.number.proofs.Limits.{zero_is, long_is, short_is}
use Rattle.number.proofs.decimal.judge.Goals as goal

pub returns-then-v-eq0 : goal.returns-then-v-eq0
unfolding of_bits
returns-then-v-eq0 c = sym (zero_is c.args.v c.args.up c.args.down c.if-v-eq0.true)

pub returns-then-v-ge1000000000000000 : goal.returns-then-v-ge1000000000000000
returns-then-v-ge1000000000000000 c = sym (long_is c.args.v c.args.up c.args.down (search rules) (λ h. omega arith))

pub returns-then-abs_diff-gt22 : goal.returns-then-abs_diff-gt22
returns-then-abs_diff-gt22 c = sym (long_is c.args.v c.args.up c.args.down (search rules) (λ h. omega arith))

pub returns : goal.returns
returns c =
    ap Ok c.short.ensures
    ∙ sym (short_is c.args.v c.args.up c.args.down (search rules) (record { few = omega arith; not_high = omega arith; not_low = omega arith }))
