use Rattle.std.proofs.Common.{sym, rules}
use Rattle.number.proofs.Figures.{set_h, set_m, set_s}
use Rattle.number.proofs.duration.set_unit.Goals as goal

pub returns-in-72 : goal.returns-in-72
returns-in-72 c = sym (set_h _ c.args.x c.args.f c.in-72.is)

pub returns-in-77 : goal.returns-in-77
returns-in-77 c = sym (set_m _ c.args.x c.args.f (search rules) c.in-77.is)

pub returns-in_default : goal.returns-in_default
returns-in_default c = sym (set_s _ c.args.x c.args.f (search rules) (search rules))
