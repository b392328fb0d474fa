-- The items of a month, passed forwards and backwards. Assumes nothing.
use Rattle.std.specs.Prelude.{if◌then◌else◌}
use Prim.Native.Nat.{ℕ, zero, suc, ◌+◌, ◌-◌, ◌≤◌, ◌<◌}
use native.Mathlib.Omega.{arith}
use native.Mathlib.Numerals.{add-one}
use mathlib.Core.Path.{◌≡◌, refl, ap, sym, subst, ◌∙◌}
use mathlib.Core.Bool.{Bool, true, false, ◌&&◌, not}
use mathlib.Core.List.{List, ◌∷◌, []}
use Rattle.std.specs.Prelude.{Option, Some, None, MatchOption, length}
use Rattle.std.specs.declared.ops.Range.{Range}
use Rattle.std.specs.declared.iter.Rev.{Rev}
use Rattle.std.specs.Iterator.Adapters.{rev_source, rev_steps}
use Rattle.std.specs.List.{filter, find, range_with_len}
use Rattle.std.proofs.lemmas.Iterator.{YieldsList}
use Rattle.std.proofs.lemmas.Iterator.Consumers.{YieldsList-from_shown}
use Rattle.std.specs.Prelude.{slice_get}
use lib.Dec.{eqb}
use lib.IntN.{pos}
use borrow.Author.Tests.{ne_eqb, lt-ltb, le-ltb}
use Rattle.definition.specs.Base.{◌or_else◌, within, keep, count}
use Rattle.definition.specs.Date.{sunday_first, date_at, month_length}
use Rattle.definition.specs.Recurrence.{item_fits, nth_in_month}
use Rattle.recurrence.specs.Kind.{last_of}
use Rattle.recurrence.proofs.Months.{last_cons, last_none}
use Rattle.recurrence.proofs.Runs.{keep_yes, keep_no, keep_none}

-- ---- one day

module _ (item d : ℕ) where
  pub item_0 : item ≡ 0 → item_fits (pos item) d ≡ true
  unfolding item_fits
  item_0 e = rw e

  pub item_1 : item ≡ 1 → item_fits (pos item) d ≡ within 1 5 (sunday_first d)
  unfolding item_fits
  item_1 e = rw e

  pub item_2 : item ≡ 2 → item_fits (pos item) d ≡ not (within 1 5 (sunday_first d))
  unfolding item_fits
  item_2 e = rw e

  pub item_day : (item ≡ 0 → ⊥) → (item ≡ 1 → ⊥) → (item ≡ 2 → ⊥) → item_fits (pos item) d ≡ eqb item (sunday_first d + 3)
  unfolding item_fits
  item_day a b c = rw (ne_eqb item 0 a, ne_eqb item 1 b, ne_eqb item 2 c)

-- ---- a run of days

-- backwards
abbrev pub down : ℕ → ℕ → List ℕ
down a zero = []
down a (suc n) = (a + n) ∷ down a n

-- the steps of a range from its end
abbrev pub steps_back : Range ℕ → Option ℕ → Range ℕ → Type 0
steps_back s r t =
    (t.start ≡ s.start) × MatchOption r ((s.end - s.start ≡ 0) × (t.end ≡ s.end)) (λ x. (0 < s.end - s.start) × (x ≡ t.end) × (s.end ≡ t.end + 1))

abbrev all_down : Rev (Range ℕ) → List ℕ
all_down s = down (rev_source s).start ((rev_source s).end - (rev_source s).start)

one_down : (a n b m x : ℕ) → n ≡ suc m → x ≡ a + m → b ≡ a → down a n ≡ x ∷ down b m
one_down a n b m x e f g = ap (down a) e ∙ ap (λ (w : ℕ). w ∷ down a m) (sym f) ∙ ap (λ (w : ℕ). x ∷ down w m) (sym g)

pub yields_down : (s : Rev (Range ℕ)) (a b : ℕ) → rev_source s ≡ record { start = a; end = b } → YieldsList (rev_steps steps_back) (λ x. x) s (down a (b - a))
yields_down s a b e =
    subst (λ (r : Range ℕ). YieldsList (rev_steps steps_back) (λ x. x) s (down r.start (r.end - r.start))) e
    (YieldsList-from_shown (rev_steps steps_back) (λ x. x) all_down
    (λ u t p. ap (λ (n : ℕ). length (down (rev_source u).start n)) p.1.0)
    (λ u x t p. one_down _ _ _ _ x (omega (arith, p.0, p.1.0, p.1.2)) (omega (arith, p.0, p.1.0, p.1.1, p.1.2)) p.0) s)

module _ (p : ℕ → Bool) where
  pub filtered_run : (a n : ℕ) → filter p (range_with_len a n) ≡ keep p (count a n)
  unfolding keep count
  filtered_run a zero = refl
  filtered_run a (suc n) = by (p a) (rw add-one (filtered_run (suc a) n))
    where
      by : (t : Bool) → filter p (range_with_len (a + 1) n) ≡ keep p (count (suc a) n) → (if t then a ∷ filter p (range_with_len (a + 1) n) else filter p (range_with_len (a + 1) n)) ≡ (if t then a ∷ keep p (count (suc a) n) else keep p (count (suc a) n))
      by true h = ap (λ (l : List ℕ). a ∷ l) h
      by false h = h

  last_front : (a n : ℕ) → last_of (keep p (count a (suc n))) ≡ (if p a then (last_of (keep p (count (suc a) n)) or_else Some a) else last_of (keep p (count (suc a) n)))
  last_front a n = by (p a) refl
    where
      by : (t : Bool) → p a ≡ t → last_of (keep p (count a (suc n))) ≡ (if t then (last_of (keep p (count (suc a) n)) or_else Some a) else last_of (keep p (count (suc a) n)))
      by true t = ap last_of (keep_yes p a n t) ∙ last_cons a (keep p (count (suc a) n))
      by false t = ap last_of (keep_no p a n t)

  swap : (t s : Bool) (a m : ℕ) (l : Option ℕ) → (if t then ((if s then Some m else l) or_else Some a) else (if s then Some m else l)) ≡ (if s then Some m else (if t then (l or_else Some a) else l))
  swap true true a m l = refl
  swap true false a m l = refl
  swap false true a m l = refl
  swap false false a m l = refl

  last_snoc : (a n : ℕ) → last_of (keep p (count a (suc n))) ≡ (if p (a + n) then Some (a + n) else last_of (keep p (count a n)))
  last_snoc a zero =
      let e : a + 0 ≡ a = omega arith in
      last_front a 0 ∙ rw (e, keep_none p a, keep_none p (suc a), last_none)
  last_snoc a (suc n) =
      let e : a + suc n ≡ suc a + n = omega arith in
      last_front a (suc n) ∙ rw (last_snoc (suc a) n, e, last_front a n) (swap (p a) (p (suc a + n)) a (suc a + n) (last_of (keep p (count (suc a) n))))

  pub found_down : (a n : ℕ) → find p (down a n) ≡ last_of (keep p (count a n))
  found_down a zero = rw (keep_none p a, last_none)
  found_down a (suc n) = ap (λ (o : Option ℕ). if p (a + n) then Some (a + n) else o) (found_down a n) ∙ sym (last_snoc a n)

-- ---- the item at a position

module _ (y m item position : ℕ) where
  pub of_december : (eqb y 19999 && eqb m 12) ≡ true → None ≡ nth_in_month y m (pos item) (pos position)
  unfolding nth_in_month
  of_december e = rw e

  module _ (first end : ℕ) (f : first ≡ date_at y m 1) (e : end ≡ first + month_length y m) (other : (eqb y 19999 && eqb m 12) ≡ false) where
    month_run : keep (item_fits (pos item)) (count first (end - first)) ≡ keep (item_fits (pos item)) (count (date_at y m 1) (month_length y m))
    month_run = let l : end - first ≡ month_length y m = omega arith in rw (l, f)

    pub of_last : position ≡ 4 → last_of (keep (item_fits (pos item)) (count first (end - first))) ≡ nth_in_month y m (pos item) (pos position)
    unfolding nth_in_month
    of_last q = rw (other, q, month_run)

    pub of_nth : (position ≡ 4 → ⊥) → position < 4 → slice_get (keep (item_fits (pos item)) (count first (end - first))) position ≡ nth_in_month y m (pos item) (pos position)
    unfolding nth_in_month
    of_nth n l = rw (other, ne_eqb position 4 n, lt-ltb position 4 l, month_run)

    pub of_none : (position ≡ 4 → ⊥) → 4 ≤ position → None ≡ nth_in_month y m (pos item) (pos position)
    unfolding nth_in_month
    of_none n l = rw (other, ne_eqb position 4 n, le-ltb position 4 l)
