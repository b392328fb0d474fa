-- Assignments, one after another. Assumes nothing.
use Rattle.std.proofs.Common.{◌≡◌, ℕ, ◌+◌, ◌%◌, ◌^◌, true, List, [], ◌∷◌, ◌++◌, map, sym, refl, ap, ◌∙◌, append_assoc, append-nil, subst, true≢false, false}
use Rattle.std.specs.Prelude.{ℤ}
use Rattle.std.specs.Prelude.{Option, Some, None}
use Rattle.definition.specs.Base.{present}
use Rattle.definition.specs.Tree.{Element}
use Rattle.definition.specs.Format.{whole}
use Rattle.definition.specs.Pack.{assignment}
use Rattle.definition.specs.Model.{Assignment}
use Rattle.definition.specs.Resource.{hours_in, rate_of, assignment_from, assignment_elements}
use Rattle.bits.specs.Steps.{Puts}
use Rattle.bits.specs.declared.Place.{Place}
use Rattle.resources.specs.Assignment.{Means}
use Rattle.resources.specs.declared.assignment.Amounts.{Amounts}
use Rattle.tree.specs.declared.element.Element.{Element as Named}
use Rattle.rows.specs.Rows.{found_meaning}
use Rattle.pack.specs.Record.{assignment_by}
use Rattle.pack.specs.declared.record.Assignment.{Assignment as X}
use Rattle.std.specs.Option.{option_map, is_some}
use Rattle.pack.specs.Writes.{Writes}
use Rattle.pack.specs.declared.record.Records.{Records}
use Rattle.assignments.specs.declared.section.Done.{Done}
use Rattle.assignments.specs.Finders.{Finders, task_by, work_by, cost_by, assignment_for, assignments_by}
use Rattle.assignments.specs.Records.{assignments_in, AddsAssignment}
use Rattle.assignments.proofs.Turns.{wrote_more, wrote_as, writes, Going, going_all, going_more, going_end}

-- ---- what an element gives

-- its cost resource wins
pub cost_wins : (g : Finders) (a : Element) (c : Option Named) → found_meaning c ≡ cost_by g a → is_some c ≡ true → None ≡ assignment_for g a
unfolding assignment_for found_meaning
cost_wins g a c e s = by c e s
  where
    by : (c : Option Named) → found_meaning c ≡ cost_by g a → is_some c ≡ true → None ≡ assignment_for g a
    by None e s = absurd (true≢false (sym s))
    by (Some q) e s = rw (← e)

module _ (g : Finders) (a : Element) (c : Option Named) (e : found_meaning c ≡ cost_by g a) (s : is_some c ≡ false) where
  cost_none : None ≡ cost_by g a
  unfolding found_meaning
  cost_none = by c s ∙ e
    where
      by : (c : Option Named) → is_some c ≡ false → None ≡ found_meaning c
      by None s = refl
      by (Some q) s = absurd (true≢false s)

  module _ {task : Option ℕ} (et : task ≡ task_by g a) where
    pub no_task : task ≡ None → None ≡ assignment_for g a
    unfolding assignment_for
    no_task z = let k : None ≡ task_by g a = sym z ∙ et in rw (← cost_none, ← k)

    module _ {t : ℕ} (z : task ≡ Some t) {row : Option ℕ} (er : row ≡ work_by g a) where
      pub no_row : row ≡ None → None ≡ assignment_for g a
      unfolding assignment_for
      no_row y =
          let k : Some t ≡ task_by g a = sym z ∙ et in
          let l : None ≡ work_by g a = sym y ∙ er in
          rw (← cost_none, ← k, ← l)

      pub both_rows : {n : ℕ} → row ≡ Some n → (w : Amounts) {rate : Option ℤ} → Means w (hours_in a "Work") (hours_in a "ActualWork") (hours_in a "RemainingWork") → rate ≡ rate_of a
          → ◌≡◌ {A = Option Assignment} (Some record { activity = t; resource = n; planned = w.planned; actual = w.actual; remaining = w.remaining; rate = rate }) (assignment_for g a)
      unfolding assignment_for assignment_from
      both_rows {n} y w m h =
          let k : Some t ≡ task_by g a = sym z ∙ et in
          let l : Some n ≡ work_by g a = sym y ∙ er in
          rw (← cost_none, ← k, ← l) (rw (m.planned_is, m.actual_is, m.remaining_is, h))

-- ---- one that may be missing

pub adds_none : {o : Option Assignment} {d : List ℕ} {r : Done} → o ≡ None → AddsAssignment o d r d r
unfolding present
adds_none e p = record { goes = λ d₀ xs u w. wrote_as (rw e (sym (append-nil xs))) w }

adds_one : {x : Assignment} {d : List ℕ} {r : Done} {d' : List ℕ} {q : Place} {r' : Done} → Puts (whole assignment) x d r.next d' q
    → (r'.count ≡ (r.count + 1) % 2 ^ 64) × (r'.next ≡ q) → AddsAssignment (Some x) d r d' r'
unfolding present
adds_one h n p = record { goes = λ d₀ xs u w. wrote_more w h n }

module _ (f : Finders) (a : Element) {r : Option X} (e : option_map assignment_by r ≡ assignment_for f a) {d : List ℕ} {n : Done} where
  pub adds_not : r ≡ None → AddsAssignment (assignment_for f a) d n d n
  adds_not z = let k : None ≡ assignment_for f a = sym (rw z) ∙ e in adds_none (sym k)

  pub adds_said : {x : X} → r ≡ Some x → {d' : List ℕ} {q : Place} {n' : Done} → Puts (whole assignment) (assignment_by x) d n.next d' q → (n'.count ≡ (n.count + 1) % 2 ^ 64) × (n'.next ≡ q)
      → AddsAssignment (assignment_for f a) d n d' n'
  adds_said {x} z {d'} {q} {n'} h k = let l : Some (assignment_by x) ≡ assignment_for f a = sym (rw z) ∙ e in subst (λ (o : Option Assignment). AddsAssignment o d n d' n') l (adds_one h k)

-- ---- one after another

more_assignments : (g : Finders) (e : Element) (fs : List Element) (xs : List Assignment)
    → xs ++ assignments_in g (e ∷ fs) ≡ (xs ++ present (assignment_for g e ∷ [])) ++ assignments_in g fs
unfolding present
more_assignments g e fs xs = by (assignment_for g e)
  where
    by : (o : Option Assignment) → xs ++ present (o ∷ map (assignment_for g) fs) ≡ (xs ++ present (o ∷ [])) ++ assignments_in g fs
    by None = sym (ap (λ (ys : List Assignment). ys ++ assignments_in g fs) (append-nil xs))
    by (Some x) = sym (append_assoc xs (x ∷ []) (assignments_in g fs))

no_assignments : (g : Finders) (xs : List Assignment) → xs ++ assignments_in g [] ≡ xs
unfolding present
no_assignments g xs = append-nil xs

-- some are done, and those of fs are left
abbrev pub GoingOn : Finders → List Element → List Element → List ℕ → Place → List ℕ → Done → Type 0
GoingOn g = Going (whole assignment) true (λ xs es. xs ++ assignments_in g es) (λ xs. Unit {0})

module _ (g : Finders) {es : List Element} {d : List ℕ} {p : Place} where
  pub go_all : {fs : List Element} → fs ≡ es → GoingOn g es fs d p d (record { count = 0; next = p })
  go_all e = going_all e tt

  pub go_more : {e : Element} {l fs : List Element} {d1 : List ℕ} {r1 : Done} {d2 : List ℕ} {r2 : Done} → l ≡ e ∷ fs → GoingOn g es l d p d1 r1 → AddsAssignment (assignment_for g e) d1 r1 d2 r2 → GoingOn g es fs d p d2 r2
  go_more {e} {l} {fs} {d1} {r1} z h i =
      let now : GoingOn g es (e ∷ fs) d p d1 r1 = subst (λ (l : List Element). GoingOn g es l d p d1 r1) z h in
      going_more now (i p) (λ xs u. tt) (more_assignments g e fs) (λ xs u. tt)

-- ---- all

module _ (g : Finders) (root : Element) {d : List ℕ} {p : Place} where
  pub assignments_all : {fs : List Element} {d' : List ℕ} {r : Done} {w : Records} → GoingOn g (assignment_elements root) fs d p d' r → fs ≡ []
      → (w.count ≡ r.count % 2 ^ 32) × (w.next ≡ r.next) → Writes (whole assignment) (assignments_by g root) d p d' w
  unfolding assignments_by
  assignments_all h e n = writes (going_end h e (no_assignments g)) n
