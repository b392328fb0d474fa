use Rattle.std.proofs.Common.{sym, ap, ◌∙◌}
use Rattle.definition.specs.Field.{date_in}
use Rattle.tree.specs.Place.{meaning}
use Rattle.tree.specs.Root.{own_text, root_at, start_date}
use Rattle.read.proofs.Projects.{date_given_lem, start_is}
use Rattle.read.proofs.project.start_of.Goals as goal

pub returns : goal.returns
returns c =
    let root = c.args.root in
    let e = root_at root in
    rw c.unwrap_or.ensures (start_is _ (date_in e "StartDate") (date_given_lem _ e "StartDate" (start_date root ∙ ap (λ x. own_text (meaning x)) (sym c.part.ensures)) c.date_at.ensures))
