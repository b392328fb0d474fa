use Rattle.activities.proofs.Values.{activity_is}
use Rattle.activities.proofs.record.record_of.Goals as goal

pub returns : goal.returns
returns c =
    let a = c.args in
    activity_is
    (record { id = a.id; name = c.text_of.result; plan = a.plan; notes = c.text_of-2.result; calendar = a.calendar; dates = c.dates_of.result; progress = c.progress_of.result; uid = c.text_of-3.result })
    c.text_of.ensures c.text_of-2.ensures c.dates_of.ensures c.progress_of.ensures c.text_of-3.ensures
