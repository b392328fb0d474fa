use mathlib.Core.Path.{ap}
use Rattle.model.specs.Passes.{pass_as}
use Rattle.model.specs.Parts.{record_of}
use Rattle.model.proofs.Single.{is_set}
use Rattle.model.proofs.records.skip_record_as.Goals as goal

pub returns-in-Calendars : goal.returns-in-Calendars
unfolding record_of
returns-in-Calendars g c = (pass_as (ap (record_of (is_set g.row.CHECK)) c.in-Calendars.is) c.skip_calendar.ensures.0, c.skip_calendar.ensures.1)

pub returns-in-Activities : goal.returns-in-Activities
unfolding record_of
returns-in-Activities g c = (pass_as (ap (record_of (is_set g.row.CHECK)) c.in-Activities.is) c.skip_activity.ensures.0, c.skip_activity.ensures.1)

pub returns-in-Links : goal.returns-in-Links
unfolding record_of
returns-in-Links g c = (pass_as (ap (record_of (is_set g.row.CHECK)) c.in-Links.is) c.skip_link.ensures.0, c.skip_link.ensures.1)

pub returns-in-Resources : goal.returns-in-Resources
unfolding record_of
returns-in-Resources g c = (pass_as (ap (record_of (is_set g.row.CHECK)) c.in-Resources.is) c.skip_resource.ensures.0, c.skip_resource.ensures.1)

pub returns-in-Assignments : goal.returns-in-Assignments
unfolding record_of
returns-in-Assignments g c = (pass_as (ap (record_of (is_set g.row.CHECK)) c.in-Assignments.is) c.skip_assignment.ensures.0, c.skip_assignment.ensures.1)

pub returns-in-Expenses : goal.returns-in-Expenses
unfolding record_of
returns-in-Expenses g c = (pass_as (ap (record_of (is_set g.row.CHECK)) c.in-Expenses.is) c.skip_expense.ensures.0, c.skip_expense.ensures.1)
