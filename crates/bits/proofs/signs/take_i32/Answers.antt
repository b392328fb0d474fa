use mir.Syntax.{w32}
use Rattle.bits.specs.Reads.{int32_at, field_lt}
use Rattle.bits.proofs.Twos.{signed_cast}
use Rattle.bits.proofs.signs.take_i32.Goals as goal

pub returns : goal.returns
unfolding int32_at
returns c = let a = c.args in rw (signed_cast w32 c.take_u32-value.result.value c.cast_signed.ensures (field_lt a.s.now a.p 32 c.take_u32-value.ensures), c.take_u32-value.ensures)
