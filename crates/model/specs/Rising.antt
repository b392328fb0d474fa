-- Lists that rise, read item by item: each item has a number above 0, and one is below another if its number is. Assumes nothing.
use Rattle.std.specs.Prelude.{◌≡◌, Bool, ◌&&◌, ◌||◌, ltb, eqb}
use Rattle.std.proofs.Math.Path.{refl, sym, ap}
use Rattle.std.proofs.Common.{◌∙◌, lt-ltb, le-ltb, ltb-true, ltb-false, eqb-true}
use Rattle.std.proofs.Math.Bool.{true, false, and-true, and_assoc}
use mathlib.Core.List.{List, [], ◌∷◌, ◌++◌, append_assoc}
use Rattle.std.specs.Prelude.{Option, Some, None}
use Prim.Native.Nat.{ℕ, zero, suc, ◌+◌, ◌-◌, ◌/◌, ◌%◌, ◌≤◌, ◌<◌}
use native.Mathlib.Omega.{arith}
use Rattle.std.proofs.lemmas.Bool.{eqb-false}
use Rattle.laws.specs.Options.{bind_assoc}
use Rattle.definition.specs.Base.{◌>>=◌, when}
use Rattle.definition.specs.Bits.{Bits}
use Rattle.definition.specs.Date.{Date}
use Rattle.definition.specs.Calendar.{by_date}
use Rattle.definition.specs.Format.{Format, ◌⊗◌, times, get_all, rises, list_of, count, Period, periods, earlier, date}
use Rattle.bits.specs.Reads.{rest, Reads, Refuses, chain, onto, read_no, read_more, read_on, refuse_times, read_list, refuse_items}
use Rattle.bits.specs.declared.Place.{Place}
use Rattle.bits.specs.declared.Field.{Field}
use Rattle.model.specs.Passes.{Passes, pass_read, pass_refused}

-- an item of number v at p, and q behind it
pub record Found {A : Type 0} (f : Format A) (K : A → ℕ → Type 0) (s : List ℕ) (p : Place) (v : ℕ) (q : Place) : Type 0 where
  pub item : A
  pub key : K item v
  pub reads : Reads f s p item q

-- a reader of items answered an item's number and the place behind it; or 0 and a place past every end, as nothing can be read
pub record Finds {A : Type 0} (f : Format A) (K : A → ℕ → Type 0) (s : List ℕ) (p : Place) (x : Field ℕ Place) : Type 0 where
  pub found : 0 < x.value → Found f K s p x.value x.next
  pub refuses : x.value ≡ 0 → Refuses f s p
  pub past : x.value ≡ 0 → rest s x.next ≡ None

-- ---- the items: periods, by from and then by to; days, with their periods or without

abbrev pub PeriodKey : Period → ℕ → Type 0
PeriodKey t v = (t ≡ (v / 2048, v % 2048)) × (0 < v)

abbrev pub DayOf : Bool → Type 0
DayOf true = Date × List Period
DayOf false = Date

unfoldable pub day_of : (hours : Bool) → Format (DayOf hours)
day_of true = date ⊗ periods
day_of false = date

abbrev pub DayKey : (hours : Bool) → DayOf hours → ℕ → Type 0
DayKey true x v = (x.0 ≡ v) × (0 < v)
DayKey false x v = (x ≡ v) × (0 < v)

unfoldable pub day_before : (hours : Bool) → DayOf hours → DayOf hours → Bool
day_before true = by_date
day_before false = ltb

abbrev pub days_of : (hours : Bool) → Format (List (DayOf hours))
days_of hours = list_of (day_before hours) (day_of hours)

-- ---- laws

pub find_pass : {A : Type 0} {f : Format A} {K : A → ℕ → Type 0} {s : List ℕ} {p : Place} {x : Field ℕ Place} → Finds f K s p x → Passes f s p x.next
find_pass {f = f} {s = s} {p} {x} h = by_value x.value refl
  where
    by_value : (v : ℕ) → x.value ≡ v → Passes f s p x.next
    by_value zero e = pass_refused (h.refuses e) (h.past e)
    by_value (suc n) e = pass_read (h.found (omega arith)).reads

module _ {A : Type 0} (lt : A → A → Bool) where
  rises_more : (xs : List A) (y x : A) → rises lt (xs ++ (y ∷ x ∷ [])) ≡ (rises lt (xs ++ (y ∷ [])) && lt y x)
  unfolding rises
  rises_more [] y x = and-true (lt y x)
  rises_more (a ∷ []) y x = ap (λ (t : Bool). lt a y && t) (and-true (lt y x)) ∙ ap (λ (t : Bool). t && lt y x) (sym (and-true (lt a y)))
  rises_more (a ∷ b ∷ xs) y x = ap (λ (t : Bool). lt a b && t) (rises_more (b ∷ xs) y x) ∙ sym (and_assoc (lt a b) (rises lt (b ∷ (xs ++ (y ∷ [])))) (lt y x))

  -- what does not rise does not with more behind it
  rises_not : (xs ys : List A) → rises lt xs ≡ false → rises lt (xs ++ ys) ≡ false
  unfolding rises
  rises_not [] ys h = let z : true ≡ false = h in cc
  rises_not (a ∷ []) ys h = let z : true ≡ false = h in cc
  rises_not (a ∷ b ∷ xs) ys h = by_first (rises_not (b ∷ xs) ys) (lt a b) h
    where
      by_first : (rises lt (b ∷ xs) ≡ false → rises lt (b ∷ (xs ++ ys)) ≡ false) → (t : Bool) → (t && rises lt (b ∷ xs)) ≡ false → (t && rises lt (b ∷ (xs ++ ys))) ≡ false
      by_first ih true h = ih h
      by_first ih false h = refl

  rises_none : rises lt [] ≡ true
  unfolding rises
  rises_none = refl

  rises_one : (x : A) → rises lt (x ∷ []) ≡ true
  unfolding rises
  rises_one x = refl

  -- a count and a list that begins with items that do not rise
  refuse_fall : (f : Format A) {s : List ℕ} {p q r : Place} {n : ℕ} {xs : List A} (k : ℕ) → Reads count s p n q → Reads (times k f) s q xs r → k ≤ n → rises lt xs ≡ false
      → Refuses (list_of lt f) s p
  unfolding list_of times
  refuse_fall f {s} {p} {q} {r} {n} {xs} k h i le e =
      let m = n - k in
      let z : n ≡ k + m = omega arith in
      let j : List A × Bits → Option (List A × Bits) = λ y. when (rises lt y.0) y in
      let g : ℕ × Bits → Option (List A × Bits) = λ x. get_all f x.0 x.1 >>= j in
      let o : Option (List A × Bits) → Option (List A × Bits) = λ o. o >>= j in
      record { gives = chain {f = count} g h ∙ sym (bind_assoc (rest s q) (get_all f n) j) ∙ ap (λ (n : ℕ). rest s q >>= get_all f n >>= j) z ∙ ap o (read_on f k m i) ∙ falls m (rest s r) }
    where
      more : (o : Option (List A × Bits)) → (o >>= onto xs >>= λ y. when (rises lt y.0) y) ≡ None
      more None = refl
      more (Some y) = rw (rises_not xs y.0 e)

      falls : (m : ℕ) (o : Option Bits) → (o >>= (λ l. get_all f m l >>= onto xs) >>= λ y. when (rises lt y.0) y) ≡ None
      falls m None = refl
      falls m (Some l) = more (get_all f m l)

-- k items were read from q₀ on and rise; the next one rises too if its number is above `last`
pub record Rose {A : Type 0} (lt : A → A → Bool) (f : Format A) (K : A → ℕ → Type 0) (s : List ℕ) (q₀ : Place) (k last : ℕ) (q : Place) : Type 0 where
  pub items : List A
  pub reads : Reads (times k f) s q₀ items q
  pub rise : rises lt items ≡ true
  pub more : (x : A) (v : ℕ) → K x v → rises lt (items ++ (x ∷ [])) ≡ ltb last v

-- items by their numbers
pub record Keys {A : Type 0} (lt : A → A → Bool) (K : A → ℕ → Type 0) : Type 0 where
  pub above : (x : A) (v : ℕ) → K x v → 0 < v
  pub order : (x y : A) (v w : ℕ) → K x v → K y w → lt x y ≡ ltb v w

module _ {A : Type 0} {lt : A → A → Bool} {K : A → ℕ → Type 0} (keys : Keys lt K) (f : Format A) where
  pub rose_none : (s : List ℕ) (q : Place) → Rose lt f K s q 0 0 q
  rose_none s q = record { items = []; reads = read_no f s q; rise = rises_none lt; more = λ x v k. rises_one lt x ∙ sym (lt-ltb 0 v (keys.above x v k)) }

  module _ {s : List ℕ} {q₀ q : Place} {k last : ℕ} {x : Field ℕ Place} (h : Rose lt f K s q₀ k last q) (i : Finds f K s q x) where
    pub rose_more : last < x.value → Rose lt f K s q₀ (k + 1) x.value x.next
    rose_more l =
        let t = i.found (omega arith) in
        let e : rises lt (h.items ++ (t.item ∷ [])) ≡ true = h.more t.item x.value t.key ∙ lt-ltb last x.value l in
        record {
          items = h.items ++ (t.item ∷ []);
          reads = read_more f k h.reads t.reads;
          rise = e;
          more = λ y w m. ap (rises lt) (append_assoc h.items (t.item ∷ []) (y ∷ [])) ∙ rises_more lt h.items t.item y
              ∙ ap (λ (b : Bool). b && lt t.item y) e ∙ keys.order t.item y x.value w t.key m;
        }

    pub rose_stop : {p : Place} {n : ℕ} → Reads count s p n q₀ → k < n → x.value ≤ last → Refuses (list_of lt f) s p
    rose_stop {p} {n} c l le = by_value x.value refl
      where
        by_value : (v : ℕ) → x.value ≡ v → Refuses (list_of lt f) s p
        by_value zero e = refuse_items lt f c (refuse_times f k n h.reads (i.refuses e) l)
        by_value (suc v) e =
            let t = i.found (omega arith) in
            refuse_fall lt f (k + 1) c (read_more f k h.reads t.reads) (omega arith) (h.more t.item x.value t.key ∙ le-ltb last x.value le)

  pub rose_done : {s : List ℕ} {p q₀ q : Place} {n last : ℕ} → Reads count s p n q₀ → Rose lt f K s q₀ n last q → Passes (list_of lt f) s p q
  rose_done c h = pass_read (read_list lt f c h.reads h.rise)

pub by_period : Keys earlier PeriodKey
by_period = record { above = λ x v k. k.1; order = λ x y v w k m. rw (k.0, m.0) (by_parts v w) }
  where
    by_to : (v w : ℕ) → v / 2048 ≡ w / 2048 → (t : Bool) → ltb (v % 2048) (w % 2048) ≡ t → t ≡ ltb v w
    by_to v w e true h = sym (lt-ltb v w (omega (arith, ltb-true (v % 2048) (w % 2048) h)))
    by_to v w e false h = sym (le-ltb v w (omega (arith, ltb-false (v % 2048) (w % 2048) h)))

    by_same : (v w : ℕ) → w / 2048 ≤ v / 2048 → (t : Bool) → eqb (v / 2048) (w / 2048) ≡ t → (t && ltb (v % 2048) (w % 2048)) ≡ ltb v w
    by_same v w l true h = by_to v w (eqb-true (v / 2048) (w / 2048) h) (ltb (v % 2048) (w % 2048)) refl
    by_same v w l false h = let n = eqb-false (v / 2048) (w / 2048) h in sym (le-ltb v w (omega arith))

    by_from : (v w : ℕ) (t : Bool) → ltb (v / 2048) (w / 2048) ≡ t → (t || (eqb (v / 2048) (w / 2048) && ltb (v % 2048) (w % 2048))) ≡ ltb v w
    by_from v w true h = sym (lt-ltb v w (omega (arith, ltb-true (v / 2048) (w / 2048) h)))
    by_from v w false h = by_same v w (ltb-false (v / 2048) (w / 2048) h) (eqb (v / 2048) (w / 2048)) refl

    by_parts : (v w : ℕ) → earlier (v / 2048, v % 2048) (w / 2048, w % 2048) ≡ ltb v w
    by_parts v w = by_from v w (ltb (v / 2048) (w / 2048)) refl

pub by_day_lem : (hours : Bool) → Keys (day_before hours) (DayKey hours)
unfolding day_before
by_day_lem true = record { above = λ x v k. k.1; order = λ x y v w k m. rw (k.0, m.0) }
by_day_lem false = record { above = λ x v k. k.1; order = λ x y v w k m. rw (k.0, m.0) }
