-- The formats of the records keep the promises of Formats for what fits: those that rest on dates, and on the kind of a lag. Assumes nothing.
use Rattle.std.specs.Prelude.{refl, not, eqb}
use Rattle.std.proofs.Common.{arith}
use Rattle.definition.specs.Text.{Text}
use Rattle.definition.specs.Format.{Format, ◌⊗◌, times, count, row, flag, code, number, date, optional, depending, list_of, periods, dates}
use Rattle.definition.specs.Calendar.{by_date}
use Rattle.definition.specs.Pack.{project, calendar, constraint, activity, link}
use Rattle.laws.specs.Formats.{Good, ◌&◌, good_depending, good_times, good_count, good_text, good_list}
use Rattle.laws.specs.Fields.{good_code, good_periods, good_number, good_optional}
use Rattle.laws.proofs.Fields.{good_date, good_dates}
use Rattle.laws.specs.FitRecords.{good_named, good_week, IsConstraint, good_lag_kind, ProjectParts, CalendarParts, ActivityRest, LinkParts, FitsLink, FitsProject, FitsCalendar, FitsActivity}

-- ---- parts of records

pub good_constraint : Good constraint IsConstraint
unfolding constraint
good_constraint = good_depending (λ k. not (eqb k 1)) (good_code 1 7 (omega arith)) good_date

-- ---- records by their parts

module _ {t : Format Text} {T : Text → Type 0} (g : Good t T) where
  pub good_project_parts : Good (t ⊗ date ⊗ t ⊗ count ⊗ count ⊗ count ⊗ count ⊗ optional date) (ProjectParts T)
  good_project_parts = g & good_date & g & good_count & good_count & good_count & good_count & good_optional good_date

  pub good_calendar_parts : Good (t ⊗ times 7 flag ⊗ times 7 periods ⊗ dates ⊗ dates ⊗ list_of by_date (date ⊗ periods)) (CalendarParts T)
  good_calendar_parts = g & good_week & good_times 7 good_periods & good_dates & good_dates & good_list by_date (good_date & good_periods)

  pub good_activity_rest :
      Good (optional t ⊗ optional constraint ⊗ optional date ⊗ optional date ⊗ optional date ⊗ optional number ⊗ code 0 3 ⊗ optional number ⊗ t) (ActivityRest T)
  good_activity_rest =
      good_optional g & good_optional good_constraint & good_optional good_date & good_optional good_date & good_optional good_date &
      good_optional good_number & good_code 0 3 (omega arith) & good_optional good_number & g

pub good_link_parts : Good (row ⊗ row ⊗ code 0 3 ⊗ number ⊗ optional number ⊗ depending (code 0 2) (eqb 2) number) LinkParts
good_link_parts = good_count & good_count & good_code 0 3 (omega arith) & good_number & good_optional good_number & good_lag_kind

-- with texts in UTF-8

pub good_project : Good project FitsProject
unfolding project
good_project = good_named _ _ (λ p. refl) (λ t. refl) (good_project_parts good_text)

pub good_calendar : Good calendar FitsCalendar
unfolding calendar
good_calendar = good_named _ _ (λ c. refl) (λ t. refl) (good_calendar_parts good_text)

pub good_activity : Good activity FitsActivity
unfolding activity
good_activity =
    good_named _ _ (λ a. refl) (λ t. refl)
    (good_text & good_text & good_code 0 2 (omega arith) & good_number & good_optional good_number & good_optional good_count & good_text &
    good_activity_rest good_text)

pub good_link : Good link FitsLink
unfolding link
good_link = good_named _ _ (λ l. refl) (λ t. refl) good_link_parts
