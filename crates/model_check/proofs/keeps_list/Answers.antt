-- `model_check::keeps_list` meets its contract. Assumes nothing.
use Rattle.std.proofs.Common.{◌≡◌, refl, ◌∙◌, ltb, length, rules}
use Rattle.definition.specs.Base.{same}
use Rattle.definition.specs.Model.{Activity, Resource, Expense}
use Rattle.definition.specs.Check.{keeps_list, if_given, is_calendar, link_right, assignment_right}
use Rattle.model.specs.Places.{expense_activity}
use Rattle.model_check.specs.Walk.{id_key}
use Rattle.model_check.proofs.Keyed.{activity_key, resource_key, expense_key}
use Rattle.model_check.proofs.Right.{link_right_lem, assignment_right_lem}
use Rattle.model_check.proofs.Whole.{both, in_row, distinct_map}
use Rattle.model_check.proofs.keeps_list.Goals as goal

pub returns : goal.returns
unfolding keeps_list
returns c =
    λ m d x.
    let n = x.names in
    in_row c.distinct_in-ids_differ.result c.args.activities c.all_distinct-resource_ids.result c.every_right-resources.result c.every_right-links.result c.every_right-assignments.result c.every_right-expenses.result c.all_distinct-expenses_differ.result
    ∙ both
    (c.distinct_in-ids_differ.ensures id_key activity_key m.activities _ d.activities x.ids ∙ distinct_map same (λ (a : Activity). a.id) m.activities)
    (both
    x.right
    (both
    (c.all_distinct-resource_ids.ensures (λ (r : Resource). (0, r.id)) resource_key m.resources _ d.resources ∙ distinct_map same (λ (r : Resource). r.id) m.resources)
    (both
    (c.every_right-resources.ensures (λ (r : Resource). if_given (is_calendar m) r.calendar) (λ p a b h y. search (rules, d.calendars, n, h)) m.resources _ d.resources)
    (both
    (c.every_right-links.ensures (link_right m) (λ p a b h y. link_right_lem d h (search rules)) m.links _ d.links)
    (both
    (c.every_right-assignments.ensures (assignment_right m) (λ p a b h y. assignment_right_lem d h (search rules)) m.assignments _ d.assignments)
    (both
    (c.every_right-expenses.ensures (λ (e : Expense). ltb e.activity (length m.activities))
    (λ p a b h y. let z : b ≡ ltb a.activity c.args.w.activities.count = search (rules, expense_activity h) in z ∙ rw d.activities.count refl)
    m.expenses _ d.expenses)
    (c.all_distinct-expenses_differ.ensures (λ (e : Expense). (e.activity, e.name)) expense_key m.expenses _ d.expenses)))))))
