use Rattle.definition.specs.Field.{date_in}
use Rattle.definition.specs.Task.{constraint_of}
use Rattle.pack.specs.Value.{date_read, constraint_read, years_back}
use Rattle.tree.specs.Place.{meaning}
use Rattle.activities.proofs.Values.{constraint_years}
use Rattle.laws.specs.FitFields.{date_in_lem}
use Rattle.laws.specs.FitLists.{is_given_lem}
use Rattle.activities.proofs.value.dates_of.Goals as goal

pub returns : goal.returns
unfolding date_in
returns c =
    let a = c.args in
    let t = meaning a.task in
    record {
      constraint_is = constraint_read _ (constraint_of t) c.constraint_of.ensures (constraint_years _ (date_in t "ConstraintDate") (is_given_lem (date_in_lem t "ConstraintDate")));
      deadline_is = date_read _ (date_in t "Deadline") c.date_in.ensures (years_back _ (is_given_lem (date_in_lem t "Deadline")));
      start_is = date_read _ (date_in t "ActualStart") c.date_in-2.ensures (years_back _ (is_given_lem (date_in_lem t "ActualStart")));
      finish_is = date_read _ (date_in t "ActualFinish") c.date_in-3.ensures (years_back _ (is_given_lem (date_in_lem t "ActualFinish")));
    }
