-- Expenses: whether one stands in the buffer, and one after another, the first of equal ones. Assumes nothing.
use Rattle.std.specs.Prelude.{if◌then◌else◌}
use Rattle.std.proofs.Common.{◌≡◌, ℕ, ◌+◌, ◌-◌, ◌%◌, ◌^◌, ◌<◌, ◌≤◌, Bool, true, false, ◌&&◌, ◌||◌, eqb, List, ◌∷◌, ◌++◌, map, length, drop, sym, refl, ap, ◌∙◌, append-nil, mod-eq_of_lt, arith, eq-eqb, eqb-true, drop_of_length-le, []}
use Rattle.std.specs.Prelude.{Option, Some, None}
use Rattle.definition.specs.Base.{◌or◌, present, some?, same}
use Rattle.definition.specs.Bits.{Bits}
use Rattle.definition.specs.Text.{Text}
use Rattle.definition.specs.Tree.{Element}
use Rattle.definition.specs.Field.{text_in}
use Rattle.definition.specs.Format.{times, whole}
use Rattle.definition.specs.Model.{Expense}
use Rattle.definition.specs.Pack.{expense}
use Rattle.definition.specs.Resource.{money_in, accrual_of, expense_from, same_expense, firsts}
use Rattle.laws.specs.Tests.{some_map}
use Rattle.bits.specs.Places.{inside, room_fits}
use Rattle.bits.specs.Reads.{rest, rest_in, Reads, taken_at, read_field}
use Rattle.bits.specs.Steps.{Puts}
use Rattle.bits.specs.declared.Place.{Place}
use Rattle.bits.specs.declared.Field.{Field}
use Rattle.model.specs.Answers.{read_at}
use Rattle.model.specs.Parts.{raw, record_of, expense_parts}
use Rattle.model.specs.Lax.{lax_like, lax_same}
use Rattle.model.specs.Passes.{Passes, pass_read}
use Rattle.model.specs.Splits.{Stands, stands_is, stands_read, stands_whole, stands_first, stands_pass, Step, step, read_length}
use Rattle.model.specs.declared.records.Kind.TheVariants.{Expenses}
use Rattle.tree.specs.Place.{meaning}
use Rattle.tree.specs.declared.element.Element.{Element as Named}
use Rattle.rows.specs.Rows.{found_meaning}
use Rattle.resources.specs.Assignment.{Means}
use Rattle.resources.specs.declared.assignment.Amounts.{Amounts}
use Rattle.names.specs.Records.{ExpenseFields, expense_fields, plain_expenses, plain_expenses_lem, run_expenses}
use Rattle.assignments.specs.declared.section.Done.{Done}
use Rattle.assignments.specs.Section.{Wrote}
use Rattle.assignments.specs.Finders.{Finders, task_by, cost_by, expense_for}
use Rattle.assignments.specs.Records.{is_expense_at, is_key, Tells, FewExpenses}
use Rattle.assignments.proofs.Turns.{wrote_more, wrote_as, wrote_still, wrote_past}
use Rattle.assignments.specs.InUse.{is_of}

-- ---- the expense at a place

module _ (d : List ℕ) (p : Place) (activity : ℕ) (name : Text) {x : Field ℕ Place} (e : x ≡ taken_at d p 32) {v : ℕ} (f : v ≡ activity) where
  pub expense_at : v ≡ x.value → {t : Text} {b : Bool} → t ≡ ((read_at raw d x.next).0 or []) → b ≡ same name t → b ≡ is_expense_at d p activity name
  unfolding is_expense_at
  expense_at z h i =
      let k : eqb activity (taken_at d p 32).value ≡ true = eq-eqb _ _ (sym f ∙ z ∙ ap (λ x. x.value) e) in
      rw (k, i, h, e)

  pub expense_not : (v ≡ x.value → ⊥) → eqb v x.value ≡ is_expense_at d p activity name
  unfolding is_expense_at
  expense_not z = rw (f, e) (by (eqb activity (taken_at d p 32).value) refl)
    where
      by : (b : Bool) → eqb activity (taken_at d p 32).value ≡ b → b ≡ (b && same name ((read_at raw d (taken_at d p 32).next).0 or []))
      by true k = absurd (z (f ∙ eqb-true _ _ k ∙ sym (ap (λ x. x.value) e)))
      by false k = refl

pub key_at : {d : List ℕ} {p : Place} {t : ExpenseFields} (activity : ℕ) (name : Text) → Stands plain_expenses d p t → is_expense_at d p activity name ≡ is_key activity name t
unfolding is_expense_at expense_parts
key_at {d} {p} {t} activity name h =
    let k = stands_whole h in
    let r = read_field d p 32 refl in
    let v : (taken_at d p 32).value ≡ t.0 = stands_is (stands_first _ k) r in
    let u = stands_read (stands_first _ (stands_pass k (pass_read r))) in
    rw (v, u)

-- ---- the search: those that are left answer for all

pub record Seeks (d : List ℕ) (p : Place) (n activity : ℕ) (name : Text) (q : Place) (i : ℕ) : Type 0 where
  pub seeks : (ts : List ExpenseFields) (end : Place) (l : Bits) → rest d end ≡ Some l → Reads (times n plain_expenses) d p ts end
      → Reads (times (n - i) plain_expenses) d q (drop i ts) end × (some? (is_key activity name) ts ≡ some? (is_key activity name) (drop i ts))

-- the first of those that are left
one : (n i : ℕ) {d : List ℕ} {q r : Place} (ts : List ExpenseFields) {end : Place} {l : Bits} → i < n → Passes (record_of false Expenses) d q r → rest d end ≡ Some l
    → Reads (times (n - i) plain_expenses) d q (drop i ts) end → Step plain_expenses d q r end n i ts
one n i ts lt k e h = step (lax_like plain_expenses_lem.like (lax_same plain_expenses)) e h lt k

first_key : (activity : ℕ) (name : Text) (b : Bool) {n : ℕ} {d : List ℕ} {q r end : Place} {i : ℕ} {ts : List ExpenseFields} → is_expense_at d q activity name ≡ b → Step plain_expenses d q r end n i ts
    → some? (is_key activity name) (drop i ts) ≡ (b || some? (is_key activity name) (drop (i + 1) ts))
unfolding some?
first_key activity name b {i = i} {ts} e s =
    ap (some? (is_key activity name)) s.is ∙ ap (λ (t : Bool). t || some? (is_key activity name) (drop (i + 1) ts)) (sym (key_at activity name s.stands) ∙ e)

module _ {d : List ℕ} {p : Place} {n activity : ℕ} {name : Text} where
  module _ {q r : Place} {i : ℕ} (h : Seeks d p n activity name q i) (lt : i < n) (k : Passes (record_of false Expenses) d q r) where
    pub seeks_more : {b : Bool} → b ≡ is_expense_at d q activity name → b ≡ false → Seeks d p n activity name r (i + 1)
    seeks_more is e = record {
      seeks = λ ts end l z w.
          let (a, b) = h.seeks ts end l z w in
          let s = one n i ts lt k z a in
          (s.on, b ∙ first_key activity name false (sym is ∙ e) s);
    }

    pub seeks_found : {b : Bool} → b ≡ is_expense_at d q activity name → b ≡ true → Tells d p n activity name true
    seeks_found is e = record {
      tells = λ ts end l z w.
          let (a, b) = h.seeks ts end l z w in
          sym (b ∙ first_key activity name true (sym is ∙ e) (one n i ts lt k z a));
    }

  pub seeks_none : {q : Place} {i : ℕ} → Seeks d p n activity name q i → n ≤ i → Tells d p n activity name false
  unfolding some?
  seeks_none {i = i} h le = record {
    tells = λ ts end l z w.
        let m = read_length plain_expenses n z w in
        let e : drop i ts ≡ [] = drop_of_length-le ts {i = i} (omega arith) in
        sym ((h.seeks ts end l z w).1 ∙ ap (some? (is_key activity name)) e);
  }

-- what the search tells of the records that were written
pub told_of : {xs : List Expense} {d₀ : List ℕ} {p : Place} {d : List ℕ} {r : Done} {t : Bool} (activity : ℕ) (name : Text) → FewExpenses d₀ xs → Wrote (whole expense) false xs d₀ p d r
    → inside (length d) r.next ≡ true → Tells d p r.count activity name t → t ≡ some? (is_of activity name) xs
told_of {xs} {d₀} {p} {d} {r} activity name (fit, few) w i h =
    let n : r.count ≡ length xs = w.counts i ∙ mod-eq_of_lt few in
    let f = room_fits (length d) r.next 0 i in
    let z : Reads (times r.count plain_expenses) d p (map expense_fields xs) r.next = rw n (run_expenses (length xs) w.puts i fit) in
    h.tells (map expense_fields xs) r.next _ (rest_in d r.next f) z ∙ some_map (is_key activity name) expense_fields xs

-- ---- what an element gives

module _ (f : Finders) (a : Element) {task : Option ℕ} (et : task ≡ task_by f a) where
  pub no_task : task ≡ None → None ≡ expense_for f a
  unfolding expense_for
  no_task z = let k : None ≡ task_by f a = sym z ∙ et in rw (← k)

  module _ {c : Option Named} (ec : found_meaning c ≡ cost_by f a) {n : ℕ} (z : task ≡ Some n) where
    pub no_cost : c ≡ None → None ≡ expense_for f a
    unfolding found_meaning expense_for
    no_cost y =
        let k : Some n ≡ task_by f a = sym z ∙ et in
        let m : None ≡ cost_by f a = sym (rw y) ∙ ec in
        rw (← k, ← m)

    pub both_there : {r : Named} → c ≡ Some r → Some (expense_from n (meaning r) a) ≡ expense_for f a
    unfolding found_meaning expense_for
    both_there {r} y =
        let k : Some n ≡ task_by f a = sym z ∙ et in
        let l : Some (meaning r) ≡ cost_by f a = sym (rw y) ∙ ec in
        rw (← k, ← l)

-- what it says
pub expense_is : (n : ℕ) (r a : Element) {name : Text} (w : Amounts) {accrual : ℕ} → name ≡ (text_in r "Name" or []) → Means w (money_in a "Cost") (money_in a "ActualCost") (money_in a "RemainingCost")
    → accrual ≡ accrual_of r → ◌≡◌ {A = Expense} (record { activity = n; name = name; planned = w.planned; actual = w.actual; remaining = w.remaining; accrual = accrual }) (expense_from n r a)
unfolding expense_from
expense_is n r a w en m h = rw (en, m.planned_is, m.actual_is, m.remaining_is, h)

-- ---- the first of equal ones

pub one_first : (xs : List Expense) (e : Expense) (t : Bool) → some? (same_expense e) xs ≡ t → firsts xs (present (Some e ∷ [])) ≡ (if t then xs else xs ++ (e ∷ []))
unfolding firsts present
one_first xs e t h = rw h

one_more : (xs : List Expense) (e : Expense) → (ys : List Expense) × (firsts xs (present (Some e ∷ [])) ≡ xs ++ ys)
one_more xs e = by (some? (same_expense e) xs) refl
  where
    by : (t : Bool) → some? (same_expense e) xs ≡ t → (ys : List Expense) × (firsts xs (present (Some e ∷ [])) ≡ xs ++ ys)
    by true h = ([], one_first xs e true h ∙ sym (append-nil xs))
    by false h = (e ∷ [], one_first xs e false h)

module _ {start : Place} {d₀ d : List ℕ} {r : Done} {xs : List Expense} (e : Expense) {t : Bool} (h : inside (length d) r.next ≡ true → t ≡ some? (same_expense e) xs) where
  -- it is there
  pub adds_known : t ≡ true → Wrote (whole expense) false xs d₀ start d r → Wrote (whole expense) false (firsts xs (present (Some e ∷ []))) d₀ start d r
  adds_known b w = by_end (inside (length d) r.next) refl
    where
      by_end : (i : Bool) → inside (length d) r.next ≡ i → Wrote (whole expense) false (firsts xs (present (Some e ∷ []))) d₀ start d r
      by_end true i = wrote_as (sym (one_first xs e true (sym (h i) ∙ b))) w
      by_end false i = let (ys, z) = one_more xs e in wrote_as (sym z) (wrote_still i w ys)

  -- it is new
  pub adds_new : t ≡ false → Wrote (whole expense) false xs d₀ start d r → {d' : List ℕ} {q : Place} {r' : Done} → Puts (whole expense) e d r.next d' q
      → (r'.count ≡ (r.count + 1) % 2 ^ 64) × (r'.next ≡ q) → Wrote (whole expense) false (firsts xs (present (Some e ∷ []))) d₀ start d' r'
  adds_new b w {d'} {q} {r'} x n = by_end (inside (length d) r.next) refl
    where
      by_end : (i : Bool) → inside (length d) r.next ≡ i → Wrote (whole expense) false (firsts xs (present (Some e ∷ []))) d₀ start d' r'
      by_end true i = wrote_as (sym (one_first xs e false (sym (h i) ∙ b))) (wrote_more w x n)
      by_end false i = let (ys, z) = one_more xs e in wrote_as (sym z) (wrote_past i w ys x n.1)
