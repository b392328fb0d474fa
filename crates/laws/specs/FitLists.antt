-- What holds of each item of a list, and of a value that may be missing, holds of what is made of them. Lists kept rising: they stay so, and are
-- no longer than there are numbers to rise by. Assumes nothing.
use Rattle.std.specs.Prelude.{if◌then◌else◌, ◌≡◌, Bool, ◌&&◌, ◌||◌, ℕ, zero, suc, ◌+◌, ◌*◌, ◌^◌, ◌≤◌, ◌<◌, leb, eqb, length, set}
use Rattle.std.proofs.Math.Path.{refl}
use Rattle.std.proofs.Common.{sym, ◌∙◌, subst, arith}
use Rattle.std.proofs.Math.Bool.{true, false}
use mathlib.Core.List.{List, [], ◌∷◌, map, flat_map}
use Rattle.std.specs.Prelude.{Option, Some, None}
use borrow.Author.Tests.{leb-true, ltb-true, ltb-false, lt-ltb, le-ltb, eqb-true, eqb-false}
use Rattle.std.proofs.Math.Dec.{ltb}
use Rattle.definition.specs.Base.{◌>>=◌, ◌or◌, ◌or_else◌, when, keep, first, find_last, present, count, numbered}
use Rattle.definition.specs.Date.{Date, last_date}
use Rattle.definition.specs.Format.{Period, rises, earlier}
use Rattle.definition.specs.Calendar.{insert, insert_all, by_date}
use Rattle.laws.specs.Bools.{both, Within}
use Rattle.laws.specs.Each.{Each, empty, next, each_append}
use Rattle.laws.specs.Formats.{IfGiven, Rising}
use Rattle.laws.specs.Fields.{IsPeriod, InYears}
use Rattle.laws.specs.FitRecords.{ArePeriods, IsDay}

-- ---- each of a list

module _ {A : Type 0} {P : A → Type 0} where
  pub each_keep : (test : A → Bool) {l : List A} → Each P l → Each P (keep test l)
  unfolding keep
  each_keep test empty = empty
  each_keep test (next {x = x} {l = l} h hs) = by (test x) (each_keep test hs)
    where
      by : (t : Bool) → Each P (keep test l) → Each P (if t then x ∷ keep test l else keep test l)
      by true k = next h k
      by false k = k

  pub each_map : {B : Type 0} {Q : B → Type 0} (f : A → B) → ((x : A) → P x → Q (f x)) → {l : List A} → Each P l → Each Q (map f l)
  each_map f g empty = empty
  each_map f g (next {x = x} h hs) = next (g x h) (each_map f g hs)

  pub each_flat : {B : Type 0} {Q : B → Type 0} (f : A → List B) → ((x : A) → P x → Each Q (f x)) → {l : List A} → Each P l → Each Q (flat_map f l)
  unfolding flat_map
  each_flat f g empty = empty
  each_flat f g (next {x = x} h hs) = each_append (g x h) (each_flat f g hs)

  pub each_set : {l : List A} (k : ℕ) (x : A) → P x → Each P l → Each P (set l k x)
  each_set k x p empty = empty
  each_set zero x p (next h hs) = next p hs
  each_set (suc k) x p (next h hs) = next h (each_set k x p hs)

-- ---- a value that may be missing

pub data Perhaps {A : Type 0} (P : A → Type 0) : Option A → Type 0 where
  missing : Perhaps P None
  there : {a : A} → P a → Perhaps P (Some a)

module _ {A : Type 0} {P : A → Type 0} where
  pub is_given_lem : {o : Option A} → Perhaps P o → IfGiven P o
  is_given_lem missing = tt
  is_given_lem (there h) = h

  pub perhaps_or : {o : Option A} (d : A) → Perhaps P o → P d → P (o or d)
  perhaps_or d missing k = k
  perhaps_or d (there h) k = h

  pub perhaps_else : {o p : Option A} → Perhaps P o → Perhaps P p → Perhaps P (o or_else p)
  perhaps_else missing k = k
  perhaps_else (there h) k = there h

  pub perhaps_when : (t : Bool) (a : A) → (t ≡ true → P a) → Perhaps P (when t a)
  perhaps_when true a h = there (h refl)
  perhaps_when false a h = missing

  pub perhaps_if : (t : Bool) {o p : Option A} → Perhaps P o → Perhaps P p → Perhaps P (if t then o else p)
  perhaps_if true h k = h
  perhaps_if false h k = k

  pub perhaps_bind : {B : Type 0} {f : B → Option A} {o : Option B} {R : B → Type 0} → Perhaps R o → ((b : B) → R b → Perhaps P (f b)) → Perhaps P (o >>= f)
  perhaps_bind missing g = missing
  perhaps_bind (there {a = b} h) g = g b h

  -- whatever was there
  pub perhaps_any : {B : Type 0} {f : B → Option A} (o : Option B) → ((b : B) → Perhaps P (f b)) → Perhaps P (o >>= f)
  perhaps_any None g = missing
  perhaps_any (Some b) g = g b

  pub perhaps_less : {Q : A → Type 0} {o : Option A} → ((a : A) → P a → Q a) → Perhaps P o → Perhaps Q o
  perhaps_less f missing = missing
  perhaps_less f (there {a = a} h) = there (f a h)

  pub each_present : {l : List (Option A)} → Each (Perhaps P) l → Each P (present l)
  unfolding present
  each_present empty = empty
  each_present (next missing hs) = each_present hs
  each_present (next (there h) hs) = next h (each_present hs)

  pub each_first : {l : List A} → Each P l → Perhaps P (first l)
  unfolding first
  each_first empty = missing
  each_first (next h hs) = there h

  pub each_last : (test : A → Bool) {l : List A} → Each P l → Perhaps P (find_last test l)
  unfolding find_last
  each_last test empty = missing
  each_last test (next {x = x} h hs) = perhaps_else (each_last test hs) (perhaps_when (test x) x (λ e. h))

-- ---- numbers one after another

pub each_count : (lo hi n m : ℕ) → lo ≤ n → n + m ≤ suc hi → Each (Within lo hi) (count n m)
unfolding count
each_count lo hi n zero h k = empty
each_count lo hi n (suc m) h k = next (h, omega arith) (each_count lo hi (suc n) m (omega arith) (omega arith))

-- kept by a bound
pub each_up_to : (lo hi : ℕ) {l : List ℕ} → Each (λ n. lo ≤ n) l → Each (Within lo hi) (keep (λ n. leb n hi) l)
unfolding keep
each_up_to lo hi empty = empty
each_up_to lo hi (next {x = x} {l = l} h hs) = by (leb x hi) refl (each_up_to lo hi hs)
  where
    by : (t : Bool) → leb x hi ≡ t → Each (Within lo hi) (keep (λ n. leb n hi) l) → Each (Within lo hi) (if t then x ∷ keep (λ n. leb n hi) l else keep (λ n. leb n hi) l)
    by true e k = next (h, leb-true x hi e) k
    by false e k = k

pub count_least : (lo n m : ℕ) → lo ≤ n → Each (λ k. lo ≤ k) (count n m)
unfolding count
count_least lo n zero h = empty
count_least lo n (suc m) h = next h (count_least lo (suc n) m (omega arith))

-- rows are below the length
pub each_row : {A : Type 0} (n : ℕ) (l : List A) → Each (λ (x : ℕ × A). x.0 < n + length l) (numbered n l)
unfolding numbered
each_row n [] = empty
each_row {A} n (x ∷ l) =
    let e : suc n + length l ≡ n + suc (length l) = omega arith in
    next {x = (n, x)} (omega arith) (subst (λ (m : ℕ). Each (λ (y : ℕ × A). y.0 < m) (numbered (suc n) l)) e (each_row (suc n) l))

-- the row of the last that passes a test
pub last_row : {A : Type 0} (test : ℕ × A → Bool) (l : List A) → Perhaps (λ n. n < length l) (find_last test (numbered 0 l) >>= λ x. Some x.0)
last_row test l = perhaps_bind (each_last test (each_row 0 l)) (λ x h. there (row x.0 h))
  where
    row : (n : ℕ) → n < 0 + length l → n < length l
    row n h = omega arith

-- ---- lists that rise by a number

-- the first is not below n
abbrev From : {A : Type 0} → (A → ℕ) → ℕ → List A → Type 0
From key n [] = Unit {0}
From key n (x ∷ l) = n ≤ key x

module _ {A : Type 0} (lt : A → A → Bool) (F : A → Type 0) (key : A → ℕ) (by : (x y : A) → F x → F y → lt x y ≡ ltb (key x) (key y)) where
  rise_more : {x : A} {l : List A} → F x → Each F l → From key (suc (key x)) l → rises lt l ≡ true → rises lt (x ∷ l) ≡ true
  unfolding rises
  rise_more p empty f h = refl
  rise_more {x = x} p (next {x = y} q qs) f h = rw (by x y p q, lt-ltb (key x) (key y) f) h

  rise_less : {x : A} {l : List A} → F x → Each F l → rises lt (x ∷ l) ≡ true → From key (suc (key x)) l × (rises lt l ≡ true)
  unfolding rises
  rise_less p empty h = (tt, refl)
  rise_less {x = x} p (next {x = y} {l = l} q qs) h =
      let (a, b) = both (lt x y) (rises lt (y ∷ l)) h in
      (ltb-true (key x) (key y) (sym (by x y p q) ∙ a), b)

  each_insert : {x : A} {l : List A} → F x → Each F l → Each F (insert lt x l)
  unfolding insert
  each_insert p empty = next p empty
  each_insert {x = x} p (next {x = y} {l = l} q qs) = go (lt x y) (lt y x) (each_insert p qs)
    where
      go : (t u : Bool) → Each F (insert lt x l) → Each F (if t then x ∷ y ∷ l else if u then y ∷ insert lt x l else x ∷ l)
      go true u k = next p (next q qs)
      go false true k = next q k
      go false false k = next p qs

  from_insert : (n : ℕ) (x : A) (l : List A) → n ≤ key x → From key n l → From key n (insert lt x l)
  unfolding insert
  from_insert n x [] h k = h
  from_insert n x (y ∷ l) h k = go (lt x y) (lt y x)
    where
      go : (t u : Bool) → From key n (if t then x ∷ y ∷ l else if u then y ∷ insert lt x l else x ∷ l)
      go true u = h
      go false true = k
      go false false = h

  rise_insert : {x : A} {l : List A} → F x → Each F l → rises lt l ≡ true → rises lt (insert lt x l) ≡ true
  unfolding insert
  rise_insert p empty h = rise_more p empty tt h
  rise_insert {x = x} p (next {x = y} {l = l} q qs) h = go (lt x y) (lt y x) (sym (by x y p q)) (sym (by y x q p)) (rise_less q qs h) (rise_insert p qs)
    where
      go : (t u : Bool) → ltb (key x) (key y) ≡ t → ltb (key y) (key x) ≡ u → From key (suc (key y)) l × (rises lt l ≡ true)
          → (rises lt l ≡ true → rises lt (insert lt x l) ≡ true) → rises lt (if t then x ∷ y ∷ l else if u then y ∷ insert lt x l else x ∷ l) ≡ true
      go true u a b k more = rise_more p (next q qs) (ltb-true (key x) (key y) a) h
      go false true a b k more =
          rise_more q (each_insert p qs) (from_insert (suc (key y)) x l (ltb-true (key y) (key x) b) k.0) (more k.1)
      go false false a b k more =
          let e : key y ≡ key x = omega (arith, ltb-false (key x) (key y) a, ltb-false (key y) (key x) b) in
          rise_more p qs (subst (λ (n : ℕ). From key (suc n) l) e k.0) k.1

  module _ (most : ℕ) (below : (x : A) → F x → key x < most) where
    few : (n : ℕ) {l : List A} → n ≤ most → From key n l → Each F l → rises lt l ≡ true → length l + n ≤ most
    few n m f empty h = omega arith
    few n m f (next {x = x} {l = l} p ps) h =
        let (a, b) = rise_less p ps h in
        let i : length l + suc (key x) ≤ most = few (suc (key x)) (below x p) a ps b in
        omega arith

    pub rising_of : most < 2 ^ 32 → {l : List A} → Each F l → rises lt l ≡ true → Rising lt F l
    rising_of m {l} e h = record { short = omega (arith, few 0 {l = l} (omega arith) (from_zero l) e h); each = e; rise = h }
      where
        from_zero : (l : List A) → From key 0 l
        from_zero [] = tt
        from_zero (x ∷ l) = omega arith

    pub rising_insert : most < 2 ^ 32 → {x : A} {l : List A} → F x → Rising lt F l → Rising lt F (insert lt x l)
    rising_insert m p h = rising_of m (each_insert p h.each) (rise_insert p h.each h.rise)

    pub rising_all : most < 2 ^ 32 → {xs l : List A} → Each F xs → Rising lt F l → Rising lt F (insert_all lt xs l)
    unfolding insert_all
    rising_all m empty h = h
    rising_all m (next p ps) h = rising_all m ps (rising_insert m p h)

pub rising_none : {A : Type 0} (lt : A → A → Bool) (F : A → Type 0) → Rising lt F []
unfolding rises
rising_none lt F = record { short = omega arith; each = empty; rise = refl }

-- ---- dates, days with hours, periods

pub dates_rising : {xs l : List Date} → Each InYears xs → Rising ltb InYears l → Rising ltb InYears (insert_all ltb xs l)
dates_rising = rising_all ltb InYears (λ d. d) (λ x y p q. refl) (suc last_date) (λ x p. omega arith) (omega arith)

pub days_rising : {xs l : List (Date × List Period)} → Each IsDay xs → Rising by_date IsDay l → Rising by_date IsDay (insert_all by_date xs l)
days_rising = rising_all by_date IsDay (λ d. d.0) (λ x y p q. refl) (suc last_date) (λ x p. omega (arith, p.0.1)) (omega arith)

earlier_by : (p q : Period) → IsPeriod p → IsPeriod q → earlier p q ≡ ltb (p.0 * 1441 + p.1) (q.0 * 1441 + q.1)
earlier_by p q h k = go (ltb p.0 q.0) (eqb p.0 q.0) (ltb p.1 q.1) refl refl refl
  where
    go : (a b c : Bool) → ltb p.0 q.0 ≡ a → eqb p.0 q.0 ≡ b → ltb p.1 q.1 ≡ c → (a || (b && c)) ≡ ltb (p.0 * 1441 + p.1) (q.0 * 1441 + q.1)
    go true b c x y z = sym (lt-ltb (p.0 * 1441 + p.1) (q.0 * 1441 + q.1) (omega (arith, ltb-true p.0 q.0 x)))
    go false true true x y z = sym (lt-ltb (p.0 * 1441 + p.1) (q.0 * 1441 + q.1) (omega (arith, eqb-true p.0 q.0 y, ltb-true p.1 q.1 z)))
    go false true false x y z = sym (le-ltb (p.0 * 1441 + p.1) (q.0 * 1441 + q.1) (omega (arith, eqb-true p.0 q.0 y, ltb-false p.1 q.1 z)))
    go false false c x y z =
        let n : p.0 ≡ q.0 → ⊥ = eqb-false p.0 q.0 y in
        let u : q.0 < p.0 = omega (arith, ltb-false p.0 q.0 x) in
        sym (le-ltb (p.0 * 1441 + p.1) (q.0 * 1441 + q.1) (omega arith))

pub periods_rising : {xs l : List Period} → Each IsPeriod xs → ArePeriods l → ArePeriods (insert_all earlier xs l)
periods_rising = rising_all earlier IsPeriod (λ p. p.0 * 1441 + p.1) earlier_by 2076481 (λ x p. omega arith) (omega arith)
