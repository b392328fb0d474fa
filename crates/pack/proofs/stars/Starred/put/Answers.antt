use Rattle.pack.proofs.TextBits.{put_starred}
use Rattle.pack.proofs.stars.Starred.put.Goals as goal

pub returns : goal.returns
returns c =
    put_starred c.args.self.text.now c.args.self.stars (rw c.from.ensures at c.put-a.ensures) c.pad-b.ensures c.put_bytes-c.ensures c.put_stars.ensures
