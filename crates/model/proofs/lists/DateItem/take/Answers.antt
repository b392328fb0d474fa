use Rattle.model.proofs.Several.{day_alone}
use Rattle.model.proofs.lists.DateItem.take.Goals as goal

pub returns : goal.returns
returns c = day_alone c.take_date_key.ensures
