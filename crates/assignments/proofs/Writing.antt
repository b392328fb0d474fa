-- The expenses of elements, one after another, with a table behind the tables of the section. Assumes nothing.
use Rattle.std.proofs.Common.{◌≡◌, ℕ, ◌-◌, ◌^◌, ◌<◌, ◌≤◌, min, Bool, true, false, leb, List, [], ◌∷◌, map, length, take, sym, refl, ap, ◌∙◌, subst, arith, take_all, leb-false, leb-true}
use Rattle.std.specs.Prelude.{Option, Some, None}
use Rattle.std.specs.Option.{option_map}
use lib.Seq.{take-length}
use Rattle.definition.specs.Base.{present}
use Rattle.definition.specs.Tree.{Element}
use Rattle.definition.specs.Format.{whole}
use Rattle.definition.specs.Model.{Expense}
use Rattle.definition.specs.Pack.{expense}
use Rattle.definition.specs.Resource.{firsts, assignment_elements}
use Rattle.laws.specs.Bits.{Bytes}
use Rattle.bits.specs.Clear.{cleared}
use Rattle.bits.specs.declared.Place.{Place}
use Rattle.index.specs.declared.Table.{Table}
use Rattle.index.specs.Chains.{table_of}
use Rattle.index.specs.Law.{table_placed}
use Rattle.index.specs.Below.{SameBelow, below_refl, below_then, below_zeros, below_take}
use Rattle.tree.specs.Root.{root_at}
use Rattle.assignments.specs.declared.section.Tables.{Tables}
use Rattle.assignments.specs.declared.expense.Used.{Used}
use Rattle.assignments.specs.declared.expense.Charge.{Charge}
use Rattle.assignments.specs.Section.{Wrote}
use Rattle.assignments.specs.Finders.{Finders, expense_for, expenses_by, finders_same}
use Rattle.assignments.specs.Records.{finders_at, ends_at, expenses_after, FewExpenses}
use Rattle.assignments.specs.Charged.{charged}
use Rattle.assignments.specs.InUse.{emptied, Noted, Noting, Behind, Notes, WroteBeside}
use Rattle.assignments.proofs.Turns.{wrote_none, wrote_as}
use Rattle.assignments.proofs.Fit.{FineExpenses, fine_none, fine_more, expense_fits}
use Rattle.assignments.proofs.Noting.{noted_none, notes_missing}

-- ---- that of one element

module _ (f : Finders) (a : Element) {r : Option Charge} (e : option_map charged r ≡ expense_for f a) {start : Place} {d : List ℕ} {u : Used} {w : List ℕ} where
  pub notes_not : r ≡ None → Notes start (expense_for f a) d u w d u w
  notes_not z = let k : None ≡ expense_for f a = sym (rw z) ∙ e in notes_missing (sym k)

  pub notes_said : {x : Charge} → r ≡ Some x → {d' : List ℕ} {u' : Used} {w' : List ℕ} → Notes start (Some (charged x)) d u w d' u' w' → Notes start (expense_for f a) d u w d' u' w'
  notes_said {x} z {d'} {u'} {w'} h = let k : Some (charged x) ≡ expense_for f a = sym (rw z) ∙ e in subst (λ (o : Option Expense). Notes start o d u w d' u' w') k h

-- ---- one after another

more_expenses : (f : Finders) (e : Element) (fs : List Element) (xs : List Expense) → expenses_after f xs (e ∷ fs) ≡ expenses_after f (firsts xs (present (expense_for f e ∷ []))) fs
unfolding present firsts
more_expenses f e fs xs = by (expense_for f e)
  where
    by : (o : Option Expense) → firsts xs (present (o ∷ map (expense_for f) fs)) ≡ expenses_after f (firsts xs (present (o ∷ []))) fs
    by None = refl
    by (Some x) = refl

no_expenses : (f : Finders) (xs : List Expense) → expenses_after f xs [] ≡ xs
unfolding present firsts
no_expenses f xs = refl

-- some are done, and those of fs are left; n words stay
pub record Writing (n : ℕ) (f : Finders) (es fs : List Element) (d : List ℕ) (p : Place) (w : List ℕ) (d' : List ℕ) (u : Used) (w' : List ℕ) : Type 0 where
  pub done : List Expense
  pub wrote : Wrote (whole expense) false done d p d' u.done
  pub fine : FineExpenses (length es) fs done
  pub noting : Noting p done d' u w'
  pub leads : expenses_after f done fs ≡ expenses_after f [] es
  pub below : SameBelow n w w'
  pub behind : Behind n u.made

pub go_all : {n : ℕ} (f : Finders) {es fs : List Element} → fs ≡ es → {d : List ℕ} {p : Place} {w : List ℕ} {m : Option Table} → Behind n m → ((t : Table) → m ≡ Some t → Noted p [] w t)
    → Writing n f es fs d p w d (record { done = record { count = 0; next = p }; made = m }) w
go_all {n} f {es} e {w = w} h k = record {
  done = [];
  wrote = wrote_none;
  fine = rw e (fine_none (omega arith));
  noting = record { noted = λ t e i. k t e };
  leads = ap (expenses_after f []) e;
  below = below_refl n w;
  behind = h;
}

module _ (t : Tables) (b : Bytes t.root.tree.now) {w : List ℕ} {es : List Element} (few : length es < 2 ^ 63) {d : List ℕ} {p : Place} where
  module _ {e : Element} {l fs : List Element} {d1 : List ℕ} {u1 : Used} {w1 : List ℕ} (z : l ≡ e ∷ fs) (g' : Writing (ends_at t) (finders_at w t) es l d p w d1 u1 w1)
      {d2 : List ℕ} {u2 : Used} {w2 : List ℕ} (h : Notes p (expense_for (finders_at w1 t) e) d1 u1 w1 d2 u2 w2) where
    g : Writing (ends_at t) (finders_at w t) es (e ∷ fs) d p w d1 u1 w1
    g = subst (λ (l : List Element). Writing (ends_at t) (finders_at w t) es l d p w d1 u1 w1) z g'

    turn : Notes p (expense_for (finders_at w t) e) d1 u1 w1 d2 u2 w2
    turn = rw (finders_same t.root.tree.now (root_at t.root) t.tasks t.work t.cost g.below) at h

    ok : FewExpenses d g.done
    ok = (g.fine.fit, omega (arith, g.fine.few))

    pub go_more : Writing (ends_at t) (finders_at w t) es fs d p w d2 u2 w2
    go_more = record {
      done = firsts g.done (present (expense_for (finders_at w t) e ∷ []));
      wrote = turn.wrote d g.done ok g.wrote g.noting;
      fine = fine_more e (expense_fits t b w e turn.row) g.done g.fine;
      noting = turn.noting d g.done ok g.wrote g.noting;
      leads = sym (more_expenses (finders_at w t) e fs g.done) ∙ g.leads;
      below = below_then g.below (turn.below (ends_at t) g.behind);
      behind = record { behind = λ v i. g.behind.behind v (turn.still v i) };
    }

-- all are done, from the words with an empty table behind
pub go_end : (t : Tables) {w₀ w : List ℕ} {fs : List Element} {d : List ℕ} {p : Place} {d' : List ℕ} {u : Used} {w' : List ℕ} → SameBelow (ends_at t) w₀ w
    → Writing (ends_at t) (finders_at w t) (assignment_elements (root_at t.root)) fs d p w d' u w' → fs ≡ [] → WroteBeside (ends_at t) (expenses_by (finders_at w₀ t) (root_at t.root)) d p w₀ d' u.done w'
unfolding expenses_by
go_end t {w₀} {w} {fs} h g e =
    let f = finders_at w t in
    let same : finders_at w t ≡ finders_at w₀ t = finders_same t.root.tree.now (root_at t.root) t.tasks t.work t.cost h in
    let l : g.done ≡ expenses_after f [] (assignment_elements (root_at t.root)) = sym (no_expenses f _) ∙ ap (expenses_after f g.done) (sym e) ∙ g.leads in
    record {
      wrote = wrote_as (l ∙ ap (λ (f : Finders). expenses_after f [] (assignment_elements (root_at t.root))) same) g.wrote;
      below = below_then h g.below;
    }

-- ---- the table

module _ (n : ℕ) (w : List ℕ) (rows : ℕ) {end : ℕ} (h : end ≡ min n (length w)) {m : Option Table} (e : m ≡ table_of (length w) end rows) where
  pub table_behind : Behind n m
  table_behind = record {
    behind = λ t i.
        let p = table_placed (length w) end rows (sym i ∙ e) in
        let a : t.at ≡ end = ap (λ (t : Table). t.at) p.is in
        omega (arith, p.fits.some, p.fits.room);
  }

  module _ {w' : List ℕ} (k : w' ≡ emptied w m) where
    pub table_none : (start : Place) (t : Table) → m ≡ Some t → Noted start [] w' t
    table_none start t i = noted_none start w (table_placed (length w) end rows (sym i ∙ e)).fits (k ∙ rw i)

    pub table_below : SameBelow n w w'
    table_below = rw k (by m table_behind)
      where
        by : (m : Option Table) → Behind n m → SameBelow n w (emptied w m)
        by None b = below_refl n w
        by (Some t) b = below_zeros t w (b.behind t refl)

-- the words behind are cleared
take_min : (n : ℕ) (w : List ℕ) → take (min n (length w)) w ≡ take n w
take_min n w = by (leb n (length w)) refl
  where
    by : (b : Bool) → leb n (length w) ≡ b → take (min n (length w)) w ≡ take n w
    by true e = let k = leb-true n (length w) e in let z : min n (length w) ≡ n = omega arith in rw z
    by false e =
        let k = leb-false n (length w) e in
        let z : min n (length w) ≡ length w = omega arith in
        let l : length w ≤ n = omega arith in
        rw z (take-length w ∙ sym (take_all n w l))

pub cleared_behind : {n : ℕ} {w w₁ : List ℕ} → SameBelow n w w₁ → {end : ℕ} → end ≡ min n (length w₁) → {w' : List ℕ} → w' ≡ cleared end w₁ → w' ≡ cleared n w
cleared_behind {n} {w} {w₁} h e k =
    let l : length w₁ - min n (length w₁) ≡ length w - n = omega (arith, h.long) in
    k ∙ rw e (rw (take_min n w₁, below_take h, l))
