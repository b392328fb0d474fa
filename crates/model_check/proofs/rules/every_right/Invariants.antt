-- `model_check::rules::every_right` meets its contract. The invariant: what is left gives the same answer as the whole. Assumes nothing.
use mathlib.Core.Bool.{Bool, true}
use mathlib.Core.List.{List}
use Prim.Native.Nat.{ℕ}
use Rattle.model_check.specs.Kinds.{Item, Run}
use Rattle.model_check.specs.Rules.{Tells}
use Rattle.model_check.proofs.Scan.{Along}
use Rattle.model_check.proofs.Right.{wrong}
use Rattle.model_check.proofs.rules.every_right.Given as goal

abbrev pub invariant-loop : goal.invariant-loop
invariant-loop g l = (of : Item l.kind → Bool) → Tells l.kind l.s of (λ p b. goal.F-post g l.right p b) → (xs : List (Item l.kind)) (end : ℕ) → Run l.kind l.s l.initial.q l.end xs end → Along l.kind l.s l.end xs end (wrong of) true l.counter l.q
