use Rattle.std.proofs.Common.{◌≡◌, ◌+◌, ◌≤◌, ◌<◌, ◌^◌, length, ap, ◌∙◌, sym, arith}
use Rattle.std.proofs.lemmas.Iterator.Consumers.{count_from_yields_List}
use mathlib.Core.Logic.{inl}
use Rattle.definition.specs.Ascii.{bytes}
use Rattle.definition.specs.Calendar.{calendar_elements}
use Rattle.tree.specs.Place.{left}
use Rattle.tree.specs.Root.{root_at, in_calendars}
use Rattle.tree.specs.Few.{children_few}
use Rattle.tree.specs.Lists.{children_list}
use Rattle.tree.specs.declared.root.Root.{Root}
use Rattle.names.proofs.calendars.count_calendars.Goals.{After-children}
use Rattle.names.proofs.calendars.count_calendars.Goals as goal

few : (root : Root) → length (calendar_elements (root_at root)) ≤ length root.tree.now
few root = rw (in_calendars root (bytes "Calendar")) (children_few root.tree.now root.calendars (bytes "Calendar"))

all : (c : After-children) → left c.children.result ≡ calendar_elements (root_at c.args.root)
all c = (rw c.part.ensures at c.children.ensures) ∙ sym (in_calendars c.args.root (bytes "Calendar"))

pub count-requires-clause-fits : goal.count-requires-clause-fits
count-requires-clause-fits c =
    let e = all (goal.at.count-requires-clause-fits c).After-children in
    let room : 0 + length (left c.children.result) < 2 ^ 64 = omega (arith, ap length e, few c.args.root, c.ranges) in
    inl room

pub returns : goal.returns
returns c =
    count_from_yields_List _ _ c.count.ensures.ran (children_list c.children.result) ∙ ap length (all (goal.at.returns c).After-children)
