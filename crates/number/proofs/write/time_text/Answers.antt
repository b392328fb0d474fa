use Rattle.definition.specs.Time.{time_text}
use Rattle.number.proofs.Writing.{outside, inside, place_inside}
use Rattle.number.proofs.write.time_text.Goals as goal

pub finish-requires-2 : goal.finish-requires-2
finish-requires-2 c = place_inside _ c.put_time.ensures c.ok_or-end.ensures.value

pub returns-then-minutes-gt1440 : goal.returns-then-minutes-gt1440
returns-then-minutes-gt1440 c = outside 1440 time_text _ c.args.out.now c.if-minutes-gt1440.true c.finish.ensures

pub returns : goal.returns
returns c = inside 1440 time_text _ c.args.out.now c.if-minutes-gt1440.false c.put_time.ensures c.ok_or-end.ensures.value c.finish-2.ensures
