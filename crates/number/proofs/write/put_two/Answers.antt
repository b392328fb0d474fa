use Rattle.std.proofs.Common.{ℕ, ◌+◌, ◌/◌, ◌%◌, [], ◌∷◌, ap, ◌∙◌}
use Rattle.number.specs.Written.{◌⨾◌, cut}
use Rattle.number.proofs.Writing.{put_as, two_digits_lem}
use Rattle.number.proofs.write.put_two.Goals as goal

pub returns-in_err-next : goal.returns-in_err-next
returns-in_err-next c =
    let n = c.args.n in
    rw c.from_residual.ensures
    (put_as (ap (λ (a : ℕ). a ∷ (n % 10 + 48) ∷ []) c.digit.ensures ∙ two_digits_lem n c.requires.two) (cut ((n % 10 + 48) ∷ []) c.in_err-next.ensures))

pub returns : goal.returns
returns c =
    let n = c.args.n in
    put_as
    (ap (λ (a : ℕ). a ∷ c.digit-2.result ∷ []) c.digit.ensures
    ∙ ap (λ (b : ℕ). (n / 10 % 10 + 48) ∷ b ∷ []) c.digit-2.ensures
    ∙ two_digits_lem n c.requires.two)
    (c.in_ok-next.ensures ⨾ c.put-2.ensures)
