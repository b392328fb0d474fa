use mathlib.Core.Path.{◌∙◌}
use Rattle.std.proofs.Math.Nat.{max_comm}
use Rattle.std.proofs.Common.{rules}
use Rattle.tree.specs.Root.{root_at}
use Rattle.names.proofs.Wording.{room_many, room_short, room_is}
use Rattle.names.proofs.uids.room_for.Goals as goal

pub returns-then-n-gt-MOST_ELEMENTS : goal.returns-then-n-gt-MOST_ELEMENTS
returns-then-n-gt-MOST_ELEMENTS c = let a = c.args in room_many a.root.tree.now (root_at a.root) a.len a.at (search rules) c.count_calendars-n.ensures c.if-n-gt-MOST_ELEMENTS.true

pub returns-then-len-rows : goal.returns-then-len-rows
returns-then-len-rows c = let a = c.args in room_short a.root.tree.now (root_at a.root) a.len a.at (search rules) c.count_calendars-n.ensures c.if-n-gt-MOST_ELEMENTS.false (c.max-rows.ensures ∙ max_comm _ 1) c.if-len-rows.true

pub returns : goal.returns
returns c = let a = c.args in room_is a.root.tree.now (root_at a.root) a.len a.at (search rules) c.count_calendars-n.ensures c.if-n-gt-MOST_ELEMENTS.false (c.max-rows.ensures ∙ max_comm _ 1) c.table_at.ensures
