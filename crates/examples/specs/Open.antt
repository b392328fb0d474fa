-- Every definition, opened at once: a proof that computes says `unfolding opened`. Assumes nothing.
use mathlib.Core.List
use Rattle.std.specs.Float.Ieee
use Rattle.definition.specs.Base
use Rattle.definition.specs.Text
use Rattle.definition.specs.Date
use Rattle.definition.specs.Number
use Rattle.definition.specs.Duration
use Rattle.definition.specs.Time
use Rattle.definition.specs.Bits
use Rattle.definition.specs.Tree
use Rattle.definition.specs.Format
use Rattle.definition.specs.Field
use Rattle.definition.specs.Recurrence
use Rattle.definition.specs.Calendar
use Rattle.definition.specs.Task
use Rattle.definition.specs.Link
use Rattle.definition.specs.Resource
use Rattle.definition.specs.Read
use Rattle.definition.specs.Pack
use Rattle.definition.specs.Check
use Rattle.definition.specs.Outline
use Rattle.definition.specs.DaySheet
use Rattle.definition.specs.Refusal

unfoldable pub opened : Unit {0}
unfolding Base.keep Base.first Base.find_last Base.some? Base.every? Base.present Base.count Base.numbered Base.same Text.following Text.utf8_after Text.is_utf8 Text.front_width Text.back_width Text.strip Text.trim_front Text.trim_back Text.trim Text.before Text.after Text.digits_after Text.digits Text.sign_of Text.unsigned_of Text.signed_of Text.is_yes Date.leap Date.year_length Date.month_length Date.years_length Date.months_length Date.new_year Date.date_at Date.year_within Date.month_within Date.year_of Date.month_of Date.day_of Date.weekday Date.sunday_first Date.day_number Date.from_days Date.year_at Date.from_ymd Date.ymd_of Date.first_ten Date.date_parts Date.date_of Number.decimal_of Number.short? Number.nearest Number.number_of Number.half_away Number.is_whole Number.nearest_whole Duration.set_unit Duration.piece_of Duration.time_figures Duration.days_of Duration.figures_of Duration.total_of Duration.duration_from Duration.duration_of Duration.decimal_up Duration.duration_text Time.time_parts Time.time_of Time.time_text Bits.enc Bits.dec Bits.bits_of Bits.bytes_up_to Bits.twos Bits.signed Tree.head_of Tree.packed Tree.record_of Tree.records_up_to Tree.records Tree.right Tree.size Tree.layout Tree.elements Tree.level Tree.element Tree.all Tree.child Tree.text_of Tree.deeper Tree.below_root Format.field Format.◌⊗◌ Format.via Format.depending Format.put_all Format.get_all Format.times Format.get_pad Format.whole Format.flag Format.code Format.time Format.number Format.date Format.period Format.text Format.optional Format.rises Format.list_of Format.periods Format.dates Field.yes_in Field.int_in Field.number_in Field.date_in Field.minutes_in Recurrence.rule_from Recurrence.rule_of Recurrence.item_fits Recurrence.nth_in_month Recurrence.fits Recurrence.days_of_rule Recurrence.recurrence_days Recurrence.days_of Calendar.insert Calendar.insert_all Calendar.working_time Calendar.periods_of Calendar.day_periods Calendar.default_calendar Calendar.elapsed_calendar Calendar.day_type Calendar.week_by Calendar.hours_by Calendar.exceptions_of Calendar.calendar_of Calendar.starred Calendar.build Calendar.built_calendars Calendar.main_calendar Calendar.skipped Task.level_of Task.kept_tasks Task.row_of Task.context_of Task.is_elapsed Task.is_fractional Task.parent_of Task.activity_of Task.activities_after Task.activities Link.lag_of Link.link_of Link.fate_of Link.fates Link.kept_of Link.links Resource.resource_of Resource.resources_after Resource.resources Resource.assignment_from Resource.assignment_of Resource.assignments Resource.expense_from Resource.expense_of Resource.firsts Resource.expenses Read.project_of Read.calendars_of Read.model_of Pack.project Pack.calendar Pack.constraint Pack.activity Pack.link Pack.resource Pack.assignment Pack.expense Pack.body Pack.model Pack.encode Pack.decode Check.distinct Check.is_calendar Check.activity_right Check.link_right Check.assignment_right Check.keeps_list Outline.parent_at Outline.top_rows Outline.child_rows Outline.under Outline.outline_of Outline.outline DaySheet.day_sheet Refusal.in_room Refusal.ranged Refusal.utf8? Refusal.project? Refusal.long? Refusal.long_in Refusal.too_long Refusal.tree_refusal Refusal.read_answer Refusal.check_answer Refusal.outline_answer Refusal.day_sheet_answer Refusal.duration_answer Refusal.program_writes List.flat_map Ieee.round Ieee.neg Ieee.add Ieee.sum Ieee.mul Ieee.div Ieee.le Ieee.lt Ieee.eq
opened = tt
