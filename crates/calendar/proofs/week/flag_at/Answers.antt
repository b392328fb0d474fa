use Rattle.std.proofs.Common.{ℕ, ◌-◌, ◌/◌, ◌%◌, ◌^◌, eqb, ap, ◌∙◌}
use borrow.Author.Tests.{lt-leb}
use Rattle.calendar.proofs.Flags.{no_flag, flag_is, low_bit, eqb_turn}
use Rattle.calendar.proofs.week.flag_at.Goals as goal

pub returns-then-k-le6 : goal.returns-then-k-le6
returns-then-k-le6 c =
    let a = c.args in
    ap (λ (n : ℕ). eqb n 1) (low_bit (a.week / 2 ^ (6 - a.k))) ∙ eqb_turn (a.week / 2 ^ (6 - a.k) % 2) ∙ flag_is a.week a.k c.if-k-le6.true

pub returns-else-k-le6 : goal.returns-else-k-le6
returns-else-k-le6 c = lt-leb c.args.k 6 c.if-k-le6.false ∙ no_flag c.args.week c.args.k c.if-k-le6.false
