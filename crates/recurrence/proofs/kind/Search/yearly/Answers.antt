use Rattle.recurrence.specs.Kind.{yearly_fits}
use Rattle.recurrence.proofs.Bounds.{year_bound, year_last, year_first}
use Rattle.recurrence.proofs.Fits.{yearly_units, yearly_none}
use Rattle.recurrence.proofs.Units.{Passed, pass_none, pass_none_there, pass_unit, fit_unit}
use Rattle.definition.specs.Date.{year_of}
use Prim.Native.Nat.{ℕ, suc, ◌+◌, ◌≤◌, min}
use native.Mathlib.Numerals.{add-one}
use mathlib.Core.Path.{◌≡◌, ap, subst⁻¹, ◌∙◌}
use borrow.Author.Tests.{le-leb}
use native.Mathlib.Omega.{arith}
use Rattle.recurrence.proofs.kind.Search.yearly.Goals as goal
use Rattle.recurrence.proofs.kind.Search.yearly.Goals.{in-Some+else-self-x, in_default}

pub year_of-requires : goal.year_of-requires
year_of-requires g c = let s = c.args.self.ready in record { low = omega (arith, s.first, s.from, s.until); high = s.last }

pub year_of-requires-2 : goal.year_of-requires-2
year_of-requires-2 g c = let s = c.args.self.ready in record { low = s.first; high = omega (arith, s.from, s.until, s.last) }

pub overflow_add-year_of : goal.overflow_add-year_of
overflow_add-year_of g c =
    omega (arith, c.year_of-2.ensures, year_bound c.args.self.r.from (omega (arith, c.args.self.ready.from, c.args.self.ready.until, c.args.self.ready.last)))

pub overflow_add-end : goal.overflow_add-end
overflow_add-end g c =
    omega (arith, c.min-end.ensures, c.year_of.ensures, year_last c.args.self.r.last c.args.self.ready.last)

pub year_of-y-requires : goal.year_of-y-requires
year_of-y-requires g c =
    let s = c.args.self.ready in
    record { low = omega (arith, s.first, s.from); high = omega (arith, s.until, s.last) }

pub loop-y-init : goal.loop-y-init
loop-y-init g c =
    subst⁻¹ (λ (y : ℕ). Passed (yearly_fits g.C.Candidate.positioned c.args.self.r c.args.month) year_of c.args.self.at y × (1 ≤ y)) c.year_of-y.ensures
    (pass_none _ _ _ _ (yearly_units g.C.Candidate.positioned c.args.self.r c.args.month c.requires) c.args.self.at, year_first c.args.self.at (omega (arith, c.args.self.ready.first, c.args.self.ready.from)))

pub candidate_in-requires : goal.candidate_in-requires
candidate_in-requires g c =
    record { year = (c.loop-y.invariant.1, omega (arith, c.loop-y-test.true, c.min-end.ensures, c.year_of.ensures, year_last c.args.self.r.last c.args.self.ready.last)); month = c.requires }

pub returns-then-self-x : goal.returns-then-self-x
returns-then-self-x g c =
    let low : c.loop-y.y ≤ year_of c.args.self.r.from + 200 = omega (arith, c.loop-y-test.true, c.min-end.ensures, c.year_of-2.ensures) in
    fit_unit _ _ _ _ (yearly_units g.C.Candidate.positioned c.args.self.r c.args.month c.requires) c.args.self.at c.loop-y.y c.candidate_in.result c.loop-y.invariant.0 c.candidate_in.ensures c.in-Some.x c.args.self.r.last c.in-Some.is c.if-self-x.true (le-leb _ _ low)

pub loop-y-preserved : goal.loop-y-preserved
loop-y-preserved g c =
    let u = yearly_units g.C.Candidate.positioned c.args.self.r c.args.month c.requires in
    let p : Passed (yearly_fits g.C.Candidate.positioned c.args.self.r c.args.month) year_of c.args.self.at (suc c.loop-y.y) = elim c.match-candidate_in.branch [
      | in-Some+else-self-x w ↦ pass_unit _ _ _ _ u c.args.self.at c.loop-y.y c.candidate_in.result c.loop-y.invariant.0 c.candidate_in.ensures w.in-Some.x w.in-Some.is w.if-self-x.false
      | in_default w ↦ pass_none_there _ _ _ _ u c.args.self.at c.loop-y.y c.candidate_in.result c.loop-y.invariant.0 c.candidate_in.ensures w.in_default.is
    ] in
    (rw add-one p, omega (arith, c.loop-y.invariant.1))

pub returns : goal.returns
returns g c =
    let end : c.min-end.result ≡ min (year_of c.args.self.r.last) (year_of c.args.self.r.from + 200) = c.min-end.ensures ∙ ap (λ (a : ℕ). min a (c.year_of-2.result + 200)) c.year_of.ensures ∙ ap (λ (b : ℕ). min (year_of c.args.self.r.last) (b + 200)) c.year_of-2.ensures in
    (yearly_none g.C.Candidate.positioned c.args.self.r c.args.month c.args.self.at c.loop-y.y c.min-end.result c.requires c.loop-y.invariant.0 end (omega (arith, c.loop-y-test.false)))
