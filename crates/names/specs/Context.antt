-- What a tree says for each task and resource, with the calendars by their names alone, as these stand in a buffer: the main one's first, then the
-- others in the order in which they are built. A name is the element's, with as many `*` as the text in the buffer is longer. Assumes nothing:
-- these are definitions.
use Rattle.std.specs.Prelude.{if◌then◌else◌, ℕ, suc, ◌-◌, Bool, ◌&&◌, List, [], map, leb, ltb, eqb, length}
use Rattle.std.specs.Prelude.{Some}
use Rattle.definition.specs.Base.{◌>>=◌, ◌or◌, numbered}
use Rattle.definition.specs.Ascii.{bytes}
use Rattle.definition.specs.Text.{Text}
use Rattle.definition.specs.Tree.{Element}
use Rattle.definition.specs.Field.{text_in}
use Rattle.definition.specs.Calendar.{Named, plain_calendar, main_calendar}
use Rattle.definition.specs.Refusal.{most_elements}
use Rattle.definition.specs.Task.{Context, per_day_of, kept_tasks}
use Rattle.bits.specs.Places.{up_to}
use Rattle.bits.specs.declared.Place.{Place}
use Rattle.model.specs.declared.records.Kind.TheVariants.{Calendars}
use Rattle.pack.specs.Value.{starred_by}
use Rattle.rows.specs.Rows.{in_order, main_in}
use Rattle.names.specs.Texts.{place_of_row, text_at}

-- the row of the main calendar among those in the order in which they are built
abbrev pub main_row : Element → ℕ
main_row root = (main_in root >>= λ x. Some x.0) or 0

-- the row in the section, where the main one stands first
abbrev pub section_row : ℕ → ℕ → ℕ
section_row main row = if eqb row main then 0 else if ltb row main then suc row else row

-- the name that a calendar is to have, by what stands for a missing one
abbrev pub wanted_by : Text → Element → Text
wanted_by unnamed e = text_in e "Name" or unnamed

abbrev pub wanted_name : Element → Text
wanted_name = wanted_by (bytes "Calendar")

-- how many `*` the name of a calendar has; that of a row's calendar
abbrev pub stars_by : Text → Element → ℕ
stars_by name e = length name - length (wanted_name e)

abbrev pub stars_in : List ℕ → Place → Element → ℕ → Element → ℕ
stars_in d c root row e = stars_by (text_at Calendars d c (section_row (main_row root) row)) e

abbrev pub name_in : List ℕ → Place → Element → ℕ × Element → Text
name_in d c root x = starred_by (wanted_name x.1) (stars_in d c root x.0 x.1)

unfoldable pub built_at : List ℕ → Place → Element → List Named
built_at d c root = map (λ (x : ℕ × Element). (text_in x.1 "UID" or [], plain_calendar (name_in d c root x) [] [])) (numbered 0 (in_order root))

unfoldable pub context_at : List ℕ → Place → Element → Context
context_at d c root =
    record { per_day = per_day_of root; built = built_at d c root; main = main_calendar root (built_at d c root); tasks = kept_tasks root }

-- all calendars are read before a place, and there are no more than 5,000,000
unfoldable pub calendars_before : List ℕ → Place → Element → Place → Bool
calendars_before d c root p = leb (length (in_order root)) most_elements && up_to (place_of_row Calendars d c (length (in_order root))) p
