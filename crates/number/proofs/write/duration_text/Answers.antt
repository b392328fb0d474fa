use Rattle.definition.specs.Duration.{duration_text}
use Rattle.number.proofs.Writing.{outside, inside, place_inside}
use Rattle.number.proofs.write.duration_text.Goals as goal

pub finish-requires-2 : goal.finish-requires-2
finish-requires-2 c = place_inside _ c.put_duration.ensures c.ok_or-end.ensures.value

pub returns-then-minutes-gt1000000000 : goal.returns-then-minutes-gt1000000000
returns-then-minutes-gt1000000000 c = outside 1000000000 duration_text _ c.args.out.now c.if-minutes-gt1000000000.true c.finish.ensures

pub returns : goal.returns
returns c = inside 1000000000 duration_text _ c.args.out.now c.if-minutes-gt1000000000.false c.put_duration.ensures c.ok_or-end.ensures.value c.finish-2.ensures
