-- The model of a tree, whose root is a Project. Document 01 and the Rust: the main calendar, then the others whose name is not the main one's, in the
-- order in which they were built, then the elapsed one where a kept task is elapsed; activities, links, resources, assignments,
-- expenses; the project's own fields, with the counts of skipped exceptions and of links dangling and across. Document 02, E2: a fourth count, of
-- the kept tasks whose Duration, used or not, gives minutes and was not whole. Assumes nothing.
use Rattle.std.specs.Prelude.{if◌then◌else◌, not, List, [], ◌∷◌, ◌++◌, map, length}
use Rattle.definition.specs.Base.{◌or◌, ◌or_else◌, keep, some?, same}
use Rattle.definition.specs.Date.{epoch}
use Rattle.definition.specs.Tree.{Element}
use Rattle.definition.specs.Field.{text_in, date_in}
use Rattle.definition.specs.Model.{Project, Calendar, Model}
use Rattle.definition.specs.Calendar.{Named, elapsed_calendar, skipped}
use Rattle.definition.specs.Task.{Context, context_of, activities, is_elapsed, is_fractional}
use Rattle.definition.specs.Link.{fates, links, entered, is_dangling, is_across}
use Rattle.definition.specs.Resource.{resources, assignments, expenses}

unfoldable pub project_of : Context → Element → Project
project_of x root = record {
  name = (text_in root "Title" or_else text_in root "Name") or [];
  start = date_in root "StartDate" or epoch;
  currency = text_in root "CurrencySymbol" or [];
  skipped = skipped root;
  dangling = length (keep is_dangling (fates x));
  across = length (keep is_across (fates x));
  fractional = length (keep is_fractional x.tasks);
  data_date = date_in root "StatusDate";
}

unfoldable pub calendars_of : Context → List Calendar
calendars_of x =
    (x.main ∷ keep (λ (c : Calendar). not (same c.name x.main.name)) (map (λ (n : Named). n.1) x.built)) ++
    (if some? is_elapsed x.tasks then elapsed_calendar ∷ [] else [])

unfoldable pub model_of : Element → Model
model_of root =
    let x = context_of root in
    record {
      project = project_of x root;
      calendars = calendars_of x;
      activities = activities x (entered (links x));
      links = links x;
      resources = resources x root;
      assignments = assignments x root;
      expenses = expenses x root;
    }
