use Rattle.std.proofs.Common.{rules, tests, get_or}
use mathlib.Core.Path.{◌≡◌, ◌∙◌, sym}
use Rattle.definition.specs.Base.{within}
use Rattle.date.proofs.Texts.{ten_short, ten_all, ten_first}
use Rattle.date.proofs.first_ten.Goals as goal
use Rattle.date.proofs.first_ten.Goals.{then-s-le10-via-then-s-le10, then-s-le10-via-else-s-le10+then-contains}

pub returns-then-s-le10 : goal.returns-then-s-le10
returns-then-s-le10 c =
    elim c.then-s-le10.branch [
      | then-s-le10-via-then-s-le10 w ↦ ten_short c.args.s.now w.if-s-le10.true
      | then-s-le10-via-else-s-le10+then-contains w ↦
          let h : w.contains.result ≡ within 0x80 0xBF (get_or c.args.s.now 10 0) = search (rules, tests) in
          ten_all c.args.s.now (sym h ∙ w.if-contains.true)
    ]

pub returns : goal.returns
returns c =
    let h : c.contains.result ≡ within 0x80 0xBF (get_or c.args.s.now 10 0) = search (rules, tests) in
    ten_first c.args.s.now (sym h ∙ c.if-contains.false)
