use Rattle.std.proofs.Common.{sym, ap, ◌∙◌, Bool, ℕ, Option}
use Rattle.definition.specs.Base.{◌>>=◌}
use Rattle.definition.specs.Text.{sign_of}
use Rattle.definition.specs.Number.{unsigned}
use Rattle.text.specs.Signs.{minus?, minus_at}
use Rattle.text.specs.Whole.{size_to}
use Rattle.text.proofs.whole.whole_of.Goals as goal

pub returns-in_err-most : goal.returns-in_err-most
returns-in_err-most g c =
    let s = c.args.s.now in
    let sized = g.W.Whole.sized (minus? (sign_of s)) in
    c.from_residual.ensures
    ∙ ap (λ (o : Option ℕ). o >>= λ m. size_to m (unsigned (sign_of s) s) >>= sized) (c.in_err-most.ensures ∙ ap g.W.Whole.most (minus_at s _ c.byte_at-minus.ensures))
    ∙ sym (g.met.W.Whole.reads s)

pub returns-in_err-size_to : goal.returns-in_err-size_to
returns-in_err-size_to g c =
    let s = c.args.s.now in
    let sized = g.W.Whole.sized (minus? (sign_of s)) in
    c.from_residual-in_err-size_to.ensures
    ∙ ap (λ (o : Option ℕ). o >>= sized) (c.in_err-size_to.ensures ∙ ap (size_to c.in_ok-most.most) c.without_sign.ensures)
    ∙ ap (λ (o : Option ℕ). o >>= λ m. size_to m (unsigned (sign_of s) s) >>= sized) (c.in_ok-most.ensures ∙ ap g.W.Whole.most (minus_at s _ c.byte_at-minus.ensures))
    ∙ sym (g.met.W.Whole.reads s)

pub returns : goal.returns
returns g c =
    let s = c.args.s.now in
    let sized = g.W.Whole.sized in
    c.sized.ensures
    ∙ ap (λ (m : Bool). sized m c.in_ok-size_to.field-0) (minus_at s _ c.byte_at-minus.ensures)
    ∙ ap (λ (o : Option ℕ). o >>= sized (minus? (sign_of s))) (c.in_ok-size_to.ensures ∙ ap (size_to c.in_ok-most.most) c.without_sign.ensures)
    ∙ ap (λ (o : Option ℕ). o >>= λ m. size_to m (unsigned (sign_of s) s) >>= sized (minus? (sign_of s))) (c.in_ok-most.ensures ∙ ap g.W.Whole.most (minus_at s _ c.byte_at-minus.ensures))
    ∙ sym (g.met.W.Whole.reads s)
