use Rattle.std.proofs.Common.{sym, ◌∙◌}
use Rattle.std.proofs.lemmas.Result.{err_from_is_err_and}
use Rattle.tree.specs.Place.{meaning}
use Rattle.links.proofs.Links.{fate_across, fate_none, fate_row}
use Rattle.links.proofs.fate.fate_of.Goals as goal

pub returns-then-is_across : goal.returns-then-is_across
returns-then-is_across c = fate_across _ (meaning c.args.link) (sym c.is_across.ensures ∙ c.if-is_across.true)

pub returns-in_err-uid : goal.returns-in_err-uid
returns-in_err-uid c =
    let p = err_from_is_err_and c.from_residual.result c.from_residual.ensures.1 in
    rw (p.1, p.2) (fate_none _ (meaning c.args.link) (sym c.is_across.ensures ∙ c.if-is_across.false) _ c.text_in.ensures (sym c.ok_or.ensures.value ∙ c.in_err-uid.was))

pub returns : goal.returns
returns c =
    fate_row _ (meaning c.args.link) (sym c.is_across.ensures ∙ c.if-is_across.false) _ c.text_in.ensures (sym c.ok_or.ensures.value ∙ c.in_ok-uid.was) c.row.ensures c.ok_or-2.ensures.value
