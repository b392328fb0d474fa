use Rattle.std.proofs.Common.{rules, tests, ℕ, ◌+◌, ◌<◌, ◌^◌, Bool, length, ap, ◌∙◌, arith}
use mathlib.Core.Logic.{inl}
use Rattle.std.proofs.lemmas.Iterator.Consumers.{YieldsList-at, YieldsList-from_enumerate}
use Rattle.std.proofs.lemmas.Iterator.Search.{find_from_yields_List}
use Rattle.definition.specs.Base.{find, numbered}
use Rattle.definition.specs.Tree.{Element}
use Rattle.index.specs.Lists.{find_is}
use Rattle.rows.specs.Lists.{gives_list}
use Rattle.rows.specs.Rows.{has_uid}
use Rattle.rows.specs.Walks.{calendars_left, CalendarsOf}
use Rattle.rows.proofs.Lasts.{numbered_is, row_meaning, numbered_there}
use Rattle.rows.proofs.Walking.{order_few}
use Rattle.rows.proofs.built.calendar_with.Goals as goal

pub find-requires-clause-can : goal.find-requires-clause-can
find-requires-clause-can c =
    let few : c.enumerate.result.count + length (calendars_left c.enumerate.result.iter) < 2 ^ 64 =
    omega (arith, c.enumerate.ensures.count, ap length (ap calendars_left c.enumerate.ensures.source ∙ c.calendars.ensures.is), order_few c.args.root, c.well_formed) in
    (tt, tt, inl few)

pub returns-clause-is : goal.returns-clause-is
returns-clause-is c =
    let has : ℕ × Element → Bool = λ x. has_uid c.args.uid.now x.1 in
    let road = YieldsList-from_enumerate (YieldsList-at c.enumerate.ensures.source (gives_list CalendarsOf calendars_left c.calendars.result)) c.enumerate.ensures.count in
    row_meaning c.find.result
    ∙ find_from_yields_List has c.find.new.self _ c.find.result c.find.ensures.ran road (λ x b q k. search (rules, tests))
    ∙ find_is has _
    ∙ ap (find has) (numbered_is 0 _ ∙ ap (numbered 0) c.calendars.ensures.is)

pub returns-clause-there : goal.returns-clause-there
returns-clause-there c =
    let t = c.args.root.tree.now in
    numbered_there CalendarsOf calendars_left t c.find.new.self c.find.result c.find.ensures.ran.0 c.enumerate.result (rw c.enumerate.ensures.source c.calendars.ensures.of) c.find.ensures.ran.2
