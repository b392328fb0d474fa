-- The expenses in use, by a table: what it says of those that were written, and one more. Assumes nothing.
use Rattle.std.specs.Prelude.{if◌then◌else◌}
use Rattle.std.proofs.Common.{◌≡◌, ℕ, suc, ◌+◌, ◌*◌, ◌%◌, ◌^◌, ◌<◌, ◌≤◌, Bool, true, false, ◌&&◌, ◌||◌, eqb, ltb, List, ◌∷◌, ◌++◌, map, length, get_or, take, drop, sym, refl, ap, ◌∙◌, mod-eq_of_lt, arith, length-append, ltb-true, eqb-true, []}
use mathlib.Core.List.{map-append}
use Rattle.std.specs.Prelude.{Option, Some, None}
use lib.ListN.{get_or-append}
use lib.Seq.{split_at, take-append-le, take-append_seam, get_or-append_seam}
use Rattle.definition.specs.Base.{◌>>=◌, ◌or_else◌, when, given, find_last, present, some?, same, numbered}
use Rattle.definition.specs.Text.{Text}
use Rattle.definition.specs.Format.{whole}
use Rattle.definition.specs.Model.{Expense}
use Rattle.definition.specs.Pack.{expense}
use Rattle.definition.specs.Resource.{firsts}
use Rattle.laws.specs.Bools.{both}
use Rattle.laws.specs.Same.{same_eq}
use Rattle.laws.specs.Options.{never}
use Rattle.laws.specs.FitRecords.{Short, ExpenseParts}
use Rattle.bits.specs.Places.{room_fits, at, inside, place_at_lem}
use Rattle.bits.specs.Steps.{Puts}
use Rattle.bits.specs.declared.Place.{Place}
use Rattle.index.specs.declared.Table.{Table}
use Rattle.index.specs.Chains.{zeros, added, place_of}
use Rattle.index.specs.Last.{last_below, rows_of}
use Rattle.index.specs.Law.{Fits}
use Rattle.index.proofs.Law.{indexed_none, indexed_by, indexed_same, find_like}
use Rattle.index.specs.With.{with, with_here, with_before, one_more}
use Rattle.index.specs.Below.{SameBelow, below_refl, below_added}
use Rattle.model.specs.Splits.{Stands}
use Rattle.model.specs.declared.records.Kind.TheVariants.{Expenses}
use Rattle.names.specs.Texts.{place_of_row}
use Rattle.names.specs.Records.{expense_fields, plain_expenses, plain_expenses_lem, Lies, lies_front, row_stands, expenses_lie}
use Rattle.assignments.specs.declared.section.Done.{Done}
use Rattle.assignments.specs.declared.expense.Used.{Used}
use Rattle.assignments.specs.Section.{Wrote}
use Rattle.assignments.specs.Records.{is_expense_at, Tells, FewExpenses}
use Rattle.assignments.specs.InUse.{key_of, byte_at, is_used, has_room, noted_by, no_expense, end_at, Noted, Noting, is_of, InUse, Behind, Notes}
use Rattle.assignments.proofs.Turns.{put_began}
use Rattle.assignments.proofs.Expenses.{key_at, told_of, one_first, adds_known, adds_new}

-- ---- one of a list, and its last row

given_else : {A : Type 0} (o : Option A) (b : Bool) (x : A) → given (o or_else when b x) ≡ (b || given o)
given_else None true x = refl
given_else None false x = refl
given_else (Some y) true x = refl
given_else (Some y) false x = refl

given_then : {A B : Type 0} (o : Option A) (f : A → B) → given (o >>= λ y. Some (f y)) ≡ given o
given_then None f = refl
given_then (Some y) f = refl

module _ {A : Type 0} (q : A → Bool) where
  some_numbered : (a : ℕ) (l : List A) → some? q l ≡ given (find_last (λ (y : ℕ × A). q y.1) (numbered a l))
  unfolding some? find_last numbered
  some_numbered a [] = refl
  some_numbered a (x ∷ l) =
      ap (λ (b : Bool). q x || b) (some_numbered (suc a) l) ∙ sym (given_else (find_last (λ (y : ℕ × A). q y.1) (numbered (suc a) l)) (q x) (a, x))

  some_last : (d : A) (l : List A) → some? q l ≡ given (last_below (λ r. q (get_or l r d)) (length l))
  some_last d l =
      some_numbered 0 l ∙ sym (given_then (find_last (λ (y : ℕ × A). q y.1) (numbered 0 l)) (λ y. y.0))
      ∙ ap given (rows_of (λ (y : ℕ × A). q y.1) d (λ r. q (get_or l r d)) l (λ r h. refl))

-- ---- the record of a row

module _ {start : Place} {xs : List Expense} {d₀ d : List ℕ} {r : Done} (ok : FewExpenses d₀ xs) (w : Wrote (whole expense) false xs d₀ start d r) (i : inside (length d) r.next ≡ true) where
  pub number_is : r.count ≡ length xs
  number_is = w.counts i ∙ mod-eq_of_lt ok.1

  lies : Lies plain_expenses (ExpenseParts Short) d start (map expense_fields xs) r.next
  lies = expenses_lie (length xs) w.puts i ok.0

  -- the next one begins where they end
  end_is : at r.next ≡ end_at start xs
  end_is = ap at lies.there.ends ∙ omega arith

  record_is : (k b : ℕ) → k < length xs → end_at start (take k xs) ≡ 8 * b → (activity : ℕ) (name : Text) → is_expense_at d (byte_at b) activity name ≡ is_of activity name (get_or xs k no_expense)
  record_is k b h e activity name =
      let us = map expense_fields (take k xs) in
      let x = expense_fields (get_or xs k no_expense) in
      let vs = map expense_fields (drop (suc k) xs) in
      let z : map expense_fields xs ≡ us ++ (x ∷ vs) = ap (map expense_fields) (split_at xs k no_expense h) ∙ map-append expense_fields (take k xs) _ in
      let l : Lies plain_expenses (ExpenseParts Short) d start (us ++ (x ∷ vs)) r.next = rw z at lies in
      let q : byte_at b ≡ place_of_row Expenses d start (length us) = place_at_lem (byte_at b) (omega arith) (omega arith) ∙ sym (lies_front plain_expenses_lem us (x ∷ vs) l).0.there.ends in
      let k : Stands plain_expenses d (byte_at b) x = rw q (row_stands plain_expenses_lem us x vs l) in
      key_at activity name k

  -- the table says whether one is of an activity and has a name
  pub used_is : {v : List ℕ} {t : Table} → Noted start xs v t → (activity : ℕ) (name : Text) → is_used d v t activity name ≡ some? (is_of activity name) xs
  unfolding is_used
  used_is {v} {t} n activity name =
      ap given (find_like n.indexed (λ r. is_expense_at d (byte_at (place_of v t r)) activity name) (λ r. is_of activity name (get_or xs r no_expense)) (key_of activity name)
      (λ r h. ap (λ (b : ℕ). is_expense_at d (byte_at b) activity name) (n.indexed.places r h) ∙ record_is r (n.places r) h (n.stands r h) activity name)
      (λ r h e. let (a, b) = both (eqb activity (get_or xs r no_expense).activity) (same name (get_or xs r no_expense).name) e in
      let x : activity ≡ (get_or xs r no_expense).activity = eqb-true _ _ a in
      let y : name ≡ (get_or xs r no_expense).name = same_eq name (get_or xs r no_expense).name b in
      rw (← x, ← y)))
      ∙ sym (some_last (is_of activity name) no_expense xs)

-- ---- one more

module _ {start : Place} {xs : List Expense} {v : List ℕ} {t : Table} (n : Noted start xs v t) (few : length xs < t.rows) (e : Expense) (b : ℕ) (k : end_at start xs ≡ 8 * b) where
  more_stands : (r : ℕ) → r < suc (length xs) → end_at start (take r (xs ++ (e ∷ []))) ≡ 8 * with n.places (length xs) b r
  more_stands =
      one_more (λ r. end_at start (take r (xs ++ (e ∷ []))) ≡ 8 * with n.places (length xs) b r) (length xs)
      (λ r h. let m : r ≤ length xs = omega arith in rw (take-append-le r xs (e ∷ []) m, with_before n.places (length xs) b r h) (n.stands r h))
      (rw (take-append_seam xs (e ∷ []), with_here n.places (length xs) b) k)

  pub noted_more : {v' : List ℕ} → v' ≡ added v t (length xs) (key_of e.activity e.name) b → Noted start (xs ++ (e ∷ [])) v' t
  noted_more z =
      let l : length (xs ++ (e ∷ [])) ≡ length xs + 1 = length-append xs (e ∷ []) in
      let old = indexed_same n.indexed (λ r h. ap (λ (x : Expense). key_of x.activity x.name) (sym (get_or-append xs (e ∷ []) no_expense r h))) (λ r h. sym (with_before n.places (length xs) b r h)) in
      record {
        places = with n.places (length xs) b;
        indexed = rw l (indexed_by old few (ap (λ (x : Expense). key_of x.activity x.name) (sym (get_or-append_seam xs e [] no_expense))) (sym (with_here n.places (length xs) b)) z);
        stands = λ r h. more_stands r (omega arith);
      }

-- none yet
pub noted_none : (start : Place) (v : List ℕ) {t : Table} → Fits t (length v) → {v' : List ℕ} → v' ≡ zeros v t.at t.rows → Noted start [] v' t
noted_none start v fits e = record { places = λ r. 0; indexed = rw e (indexed_none _ _ v fits); stands = λ r h. absurd (omega arith) }

-- ---- what is noted

-- where there is a table still, it was there, and has one more
record NotedIn (v : List ℕ) (m : Option Table) (row : ℕ) (p : Place) (key : ℕ) (t : Table) (v' : List ℕ) : Type 0 where
  was : m ≡ Some t
  whole_byte : p.bit ≡ 0
  few : row < t.rows
  words : v' ≡ added v t row key p.byte

module _ (v : List ℕ) (row : ℕ) (p : Place) (key : ℕ) where
  abbrev stored : Bool → Table → (Option Table) × List ℕ
  stored b t = if b then (Some t, added v t row key p.byte) else (None, v)

  noted_in : (m : Option Table) {t : Table} → (noted_by v m row p key).0 ≡ Some t → NotedIn v m row p key t (noted_by v m row p key).1
  unfolding noted_by
  noted_in None e = let y : ◌≡◌ {A = ℕ} 0 1 = cc in absurd (omega arith)
  noted_in (Some u) {t} e = by (has_room u row p) refl e
    where
      by : (b : Bool) → has_room u row p ≡ b → (stored b u).0 ≡ Some t → NotedIn v (Some u) row p key t (stored b u).1
      by false h e = let y : ◌≡◌ {A = ℕ} 0 1 = cc in absurd (omega arith)
      by true h e =
          let z : u ≡ t = cc in
          let (a, c) = both (eqb p.bit 0) (ltb p.byte (2 ^ 32) && ltb row u.rows) h in
          let (f, g) = both (ltb p.byte (2 ^ 32)) (ltb row u.rows) c in
          record { was = e; whole_byte = eqb-true _ _ a; few = rw (← z) (ltb-true _ _ g); words = rw z }

  noted_below : (m : Option Table) (n : ℕ) → Behind n m → SameBelow n v (noted_by v m row p key).1
  unfolding noted_by
  noted_below None n h = below_refl n v
  noted_below (Some t) n h = by (has_room t row p)
    where
      by : (b : Bool) → SameBelow n v (stored b t).1
      by false = below_refl n v
      by true = below_added t v row key p.byte (h.behind t refl)

-- ---- whether one is in use

module _ {start : Place} {d : List ℕ} {u : Used} {w : List ℕ} {activity : ℕ} {name : Text} where
  -- past the end
  pub in_use_past : 7 < u.done.next.bit → InUse start d u w activity name true
  in_use_past h = record { told = λ d₀ xs ok k n i. absurd (omega (arith, (room_fits (length d) u.done.next 0 i).bit)) }

  -- by the table
  pub in_use_table : {t : Table} → u.made ≡ Some t → {b : Bool} → b ≡ is_used d w t activity name → InUse start d u w activity name b
  in_use_table {t} e j = record { told = λ d₀ xs ok k n i. j ∙ used_is ok k i (n.noted t e i) activity name }

  -- by a scan
  pub in_use_scan : {b : Bool} → Tells d start u.done.count activity name b → InUse start d u w activity name b
  in_use_scan h = record { told = λ d₀ xs ok k n i. told_of activity name ok k i h }

-- ---- one that may be missing

pub notes_missing : {o : Option Expense} {start : Place} {d : List ℕ} {u : Used} {w : List ℕ} → o ≡ None → Notes start o d u w d u w
unfolding present firsts
notes_missing {w = w} e = rw e (record { wrote = λ d₀ xs ok h n. h; noting = λ d₀ xs ok h n. n; row = λ x z. never z; below = λ n h. below_refl n w; still = λ t z. z })

module _ {start : Place} {d : List ℕ} {u : Used} {w : List ℕ} (e : Expense) (small : e.activity < 2 ^ 32) {t : Bool} (h : InUse start d u w e.activity e.name t) where
  is_small : (x : Expense) → Some e ≡ Some x → x.activity < 2 ^ 32
  is_small x z = let y : e ≡ x = cc in rw (← y) small

  -- it is there
  pub notes_known : t ≡ true → Notes start (Some e) d u w d u w
  notes_known b = record {
    wrote = λ d₀ xs ok k n. adds_known e (λ i. h.told d₀ xs ok k n i) b k;
    noting = λ d₀ xs ok k n. record { noted = λ t m i. rw (one_first xs e true (sym (h.told d₀ xs ok k n i) ∙ b)) (n.noted t m i) };
    row = is_small;
    below = λ n k. below_refl n w;
    still = λ t m. m;
  }

  -- it is new
  module _ (b : t ≡ false) {d' : List ℕ} {q : Place} {r : Done} (x : Puts (whole expense) e d u.done.next d' q) (c : (r.count ≡ (u.done.count + 1) % 2 ^ 64) × (r.next ≡ q))
      {key : ℕ} (y : key ≡ key_of e.activity e.name) {m : Option Table} {w' : List ℕ}
      (z : (m ≡ (noted_by w u.made u.done.count u.done.next key).0) × (w' ≡ (noted_by w u.made u.done.count u.done.next key).1)) where
    now_noted : (d₀ : List ℕ) (xs : List Expense) → FewExpenses d₀ xs → Wrote (whole expense) false xs d₀ start d u.done → Noting start xs d u w → (v : Table) → m ≡ Some v
        → inside (length d) u.done.next ≡ true → Noted start (firsts xs (present (Some e ∷ []))) w' v
    now_noted d₀ xs ok k n v f i =
        let g = noted_in w u.done.count u.done.next key u.made (sym z.0 ∙ f) in
        let num : u.done.count ≡ length xs = number_is ok k i in
        let end : end_at start xs ≡ 8 * u.done.next.byte = omega (arith, end_is ok k i, g.whole_byte) in
        let few : length xs < v.rows = omega (arith, g.few) in
        let words : w' ≡ added w v (length xs) (key_of e.activity e.name) u.done.next.byte = rw (← num, ← y) (z.1 ∙ g.words) in
        rw (one_first xs e false (sym (h.told d₀ xs ok k n i) ∙ b)) (noted_more (n.noted v g.was i) few e u.done.next.byte end words)

    pub notes_new : Notes start (Some e) d u w d' (record { done = r; made = m }) w'
    notes_new = record {
      wrote = λ d₀ xs ok k n. adds_new e (λ i. h.told d₀ xs ok k n i) b k x c;
      noting = λ d₀ xs ok k n. record { noted = λ v f i. now_noted d₀ xs ok k n v f (put_began x (rw c.1 at i)) };
      row = is_small;
      below = λ n k. rw z.1 (noted_below w u.done.count u.done.next key u.made n k);
      still = λ v f. (noted_in w u.done.count u.done.next key u.made (sym z.0 ∙ f)).was;
    }
