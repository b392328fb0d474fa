use Rattle.std.proofs.Common.{sym, ap, ◌∙◌}
use Rattle.std.specs.Prelude.{Option, []}
use Rattle.definition.specs.Base.{◌or◌}
use Rattle.definition.specs.Text.{Text}
use Rattle.tree.specs.Place.{meaning}
use Rattle.tree.specs.Root.{own_text, root_at, currency_symbol, status_date}
use Rattle.read.proofs.Projects.{date_given_lem, project_put}
use Rattle.read.proofs.project.put_project.Goals as goal

pub returns : goal.returns
returns c =
    let root = c.args.tasks.root in
    let e = root_at root in
    let symbol = c.own_text.ensures ∙ ap (λ x. own_text (meaning x) or []) c.part.ensures ∙ ap (λ (o : Option Text). o or []) (sym (currency_symbol root)) in
    project_put e (record { name = c.project_name.result; start = c.start_of.result; currency = c.own_text.result; skips = c.skips_of.result; data_date = c.date_at.result }) c.project_name.ensures c.start_of.ensures symbol c.skips_of.ensures
    (date_given_lem _ e "StatusDate" (status_date root ∙ ap (λ x. own_text (meaning x)) (sym c.part-2.ensures)) c.date_at.ensures) c.put.ensures
