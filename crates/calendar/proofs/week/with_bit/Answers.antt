use Rattle.calendar.proofs.Flags.{bits_joined, bit_is}
use Rattle.calendar.proofs.week.with_bit.Goals as goal

pub returns : goal.returns
returns c =
    let a = c.args in
    let p = c.requires in
    bits_joined a.w a.n a.on p.small p.place (bit_is a.on c.from.ensures) c.low.ensures
