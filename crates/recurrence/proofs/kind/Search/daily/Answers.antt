use Rattle.recurrence.proofs.Fits.{daily_fit}
use mathlib.Core.Path.{refl}
use Rattle.recurrence.proofs.kind.Search.daily.Goals as goal

pub returns-then-q-lt5000 : goal.returns-then-q-lt5000
returns-then-q-lt5000 c =
    daily_fit c.args.self.r c.args.self.at c.steps_up-q.result c.args.self.ready.step c.args.self.ready.from c.steps_up-q.ensures _ refl c.if-q-lt5000.true
