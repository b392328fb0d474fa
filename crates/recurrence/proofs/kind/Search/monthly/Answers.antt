use Rattle.recurrence.specs.Kind.{UpTo, candidate_at, monthly_fits}
use Rattle.recurrence.specs.Scale.{month_at}
use Rattle.recurrence.proofs.Bounds.{month_bound, month_last, month_first}
use Rattle.recurrence.proofs.Fits.{step_month, monthly_units, monthly_first, monthly_next, monthly_fit, monthly_past, monthly_none}
use Rattle.recurrence.proofs.Months.{month_rises}
use Rattle.recurrence.proofs.Units.{Passed, pass_none_there, pass_unit}
use Prim.Native.Nat.{ℕ, suc, ◌+◌, ◌-◌, ◌*◌, ◌<◌}
use native.Mathlib.Nat.{mul-le-mul, le_of_lt}
use native.Mathlib.Numerals.{add-one}
use mathlib.Core.Path.{ap, subst, ◌∙◌}
use native.Mathlib.Omega.{arith}
use Rattle.recurrence.proofs.kind.Search.monthly.Goals as goal
use Rattle.recurrence.proofs.kind.Search.monthly.Goals.{in-Some+else-self-x, in_default}

pub overflow_sub-month_at : goal.overflow_sub-month_at
overflow_sub-month_at g c =
    omega (arith, c.month_at.ensures, c.month_at-first.ensures, month_rises c.args.self.r.from c.args.self.at c.args.self.ready.from)

pub steps_up-q-requires : goal.steps_up-q-requires
steps_up-q-requires g c =
    record { days = omega (arith, c.month_at.ensures, month_bound c.args.self.at (omega (arith, c.args.self.ready.until, c.args.self.ready.last))); step = c.args.self.ready.step; most = c.args.self.ready.most }

pub loop-q-init : goal.loop-q-init
loop-q-init g c =
    let r = c.args.self.r in
    let q = c.steps_up-q.result in
    let u = subst (λ (n : ℕ). UpTo (n - c.month_at-first.result) r.rule.period q) c.month_at.ensures c.steps_up-q.ensures in
    monthly_first g.C.Candidate.positioned r c.args.self.at c.args.self.ready.step q c.args.self.ready.from (subst (λ (n : ℕ). UpTo (month_at c.args.self.at - n) r.rule.period q) c.month_at-first.ensures u)

pub overflow_add-k : goal.overflow_add-k
overflow_add-k g c =
    omega (arith, mul-le-mul (le_of_lt c.loop-q-test.true) c.args.self.ready.most, c.month_at-first.ensures, month_bound c.args.self.r.from (omega (arith, c.args.self.ready.from, c.args.self.ready.until, c.args.self.ready.last)))

pub returns-then-end-k : goal.returns-then-end-k
returns-then-end-k g c =
    let q = c.loop-q.q in
    let past : month_at c.args.self.r.last < step_month c.args.self.r q = omega (arith, c.if-end-k.true, c.month_at-end.ensures, c.month_at-first.ensures) in
    (monthly_past g.C.Candidate.positioned c.args.self.r c.args.self.at c.args.self.ready.step q past c.loop-q.invariant)

pub candidate_in-requires : goal.candidate_in-requires
candidate_in-requires g c =
    record { year = (omega (arith, c.month_at-first.ensures, month_first c.args.self.r.from c.args.self.ready.first), omega (arith, c.if-end-k.false, c.month_at-end.ensures, month_last c.args.self.r.last c.args.self.ready.last)); month = omega arith }

pub returns-then-self-x : goal.returns-then-self-x
returns-then-self-x g c =
    let q = c.loop-q.q in
    let r = c.args.self.r in
    let is = c.candidate_in.ensures ∙ ap (λ (n : ℕ). candidate_at g.C.Candidate.positioned r (n + q * r.rule.period)) c.month_at-first.ensures in
    monthly_fit g.C.Candidate.positioned r c.args.self.at c.args.self.ready.step q c.in-Some.x c.candidate_in.result is c.in-Some.is c.if-self-x.true c.loop-q-test.true c.loop-q.invariant

pub loop-q-preserved : goal.loop-q-preserved
loop-q-preserved g c =
    let q = c.loop-q.q in
    let r = c.args.self.r in
    let is = c.candidate_in.ensures ∙ ap (λ (n : ℕ). candidate_at g.C.Candidate.positioned r (n + q * r.rule.period)) c.month_at-first.ensures in
    let u = monthly_units g.C.Candidate.positioned r in
    let p : Passed (monthly_fits g.C.Candidate.positioned r) month_at c.args.self.at (suc (step_month r q)) = elim c.match-candidate_in.branch [
      | in-Some+else-self-x w ↦ pass_unit _ _ _ _ u c.args.self.at (step_month r q) c.candidate_in.result c.loop-q.invariant is w.in-Some.x w.in-Some.is w.if-self-x.false
      | in_default w ↦ pass_none_there _ _ _ _ u c.args.self.at (step_month r q) c.candidate_in.result c.loop-q.invariant is w.in_default.is
    ] in
    rw add-one (monthly_next g.C.Candidate.positioned r c.args.self.at c.args.self.ready.step q p)

pub returns : goal.returns
returns g c =
    (monthly_none g.C.Candidate.positioned c.args.self.r c.args.self.at c.args.self.ready.step c.loop-q.q c.loop-q-test.false c.loop-q.invariant)
