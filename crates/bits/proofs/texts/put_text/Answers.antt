use Rattle.bits.specs.Steps.{put_text}
use Rattle.bits.proofs.texts.put_text.Goals as goal

pub returns : goal.returns
returns c =
    put_text c.put-a.ensures c.pad-b.ensures c.put_bytes.ensures
