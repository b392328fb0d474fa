use Rattle.std.proofs.Common.{◌∙◌}
use Rattle.bits.specs.Reads.{field_lt}
use Rattle.bits.proofs.reading.take_u32.Goals.{then-five, else-five}
use Rattle.bits.proofs.reading.take_u32.Goals as goal

pub overflow_cast-result : goal.overflow_cast-result
overflow_cast-result c =
    let a = c.args in
    record {
      fits = elim c.if-five.branch [
        | then-five w ↦ field_lt a.s.now a.p 32 (w.value-is ∙ w.take_five.ensures)
        | else-five w ↦ field_lt a.s.now a.p 32 (w.value-is ∙ w.take.ensures)
      ];
    }
