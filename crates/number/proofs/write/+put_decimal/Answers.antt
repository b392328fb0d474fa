use Rattle.std.proofs.Common.{ℕ, ◌/◌, [], ◌∷◌, ◌++◌, ap, ◌∙◌, rules}
use Rattle.definition.specs.Duration.{decimal}
use Rattle.number.specs.Written.{◌⨾◌, cut}
use Rattle.number.proofs.Writing.{put_as, decimal_one, decimal_more}
use Rattle.number.proofs.write.+put_decimal.Goals as goal

pub returns-then-n-lt10 : goal.returns-then-n-lt10
returns-then-n-lt10 t c = put_as (ap (λ (b : ℕ). b ∷ []) c.digit.ensures ∙ decimal_one c.args.n (search rules)) c.put.ensures

pub returns-in_err-next : goal.returns-in_err-next
returns-in_err-next t c = rw c.from_residual.ensures (put_as (decimal_more c.args.n (search rules) c.ranges.n.fits) (cut _ c.in_err-next.ensures))

pub returns : goal.returns
returns t c =
    let n = c.args.n in
    put_as (ap (λ (b : ℕ). decimal (n / 10) ++ (b ∷ [])) c.digit-2.ensures ∙ decimal_more n (search rules) c.ranges.n.fits) (c.in_ok-next.ensures ⨾ c.put-2.ensures)
