use Rattle.std.proofs.Common.{◌≡◌, ◌+◌, ◌<◌, ◌^◌, length, refl, ap, ◌∙◌, arith}
use Rattle.std.proofs.lemmas.Iterator.Consumers.{count_from_yields_List}
use mathlib.Core.Logic.{inl}
use Rattle.definition.specs.Resource.{work_resources}
use Rattle.tree.specs.Root.{root_at}
use Rattle.rows.specs.Lists.{gives_list}
use Rattle.rows.specs.Tables.{elements_left, ElementsOf}
use Rattle.assignments.proofs.Work.{work_few, resources_all, resources_none}
use Rattle.assignments.proofs.resource.put_all.Goals.{After-count-n}
use Rattle.assignments.proofs.resource.put_all.Goals as goal

pub count-n-requires-clause-fits : goal.count-n-requires-clause-fits
count-n-requires-clause-fits c =
    let few : 0 + length (elements_left c.elements.result) < 2 ^ 64 = omega (arith, ap length c.elements.ensures.is, work_few c.args.root, c.ranges) in
    inl few

number : (c : After-count-n) → c.count-n.result ≡ length (work_resources (root_at c.args.root))
number c = count_from_yields_List _ _ c.count-n.ensures.ran (gives_list ElementsOf elements_left c.elements.result) ∙ ap length c.elements.ensures.is

pub returns-then-n-eq0 : goal.returns-then-n-eq0
returns-then-n-eq0 c =
    let a = c.args in
    let n = number (goal.at.returns-then-n-eq0 c).After-count-n in
    (resources_none a.out.now a.c a.root a.p n c.calendars_before.ensures (omega arith) c.if-not-calendars_before.false c.none-then-n-eq0.ensures, refl)

pub returns : goal.returns
returns c =
    let a = c.args in
    let n = number (goal.at.returns c).After-count-n in
    resources_all a.out.now a.c a.root a.p n c.calendars_before.ensures (omega arith) c.if-not-calendars_before.false c.index_calendars-calendars.ensures c.ids_for.ensures c.put.ensures c.from.ensures
