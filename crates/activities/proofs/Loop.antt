-- Activities put one after another: each from the ids and the levels of those before it. Assumes nothing.
use Prim.Native.Nat.{ℕ, ◌+◌, ◌^◌, ◌<◌}
use native.Mathlib.Omega.{arith}
use mathlib.Core.Path.{◌≡◌, refl, sym, ap, ◌∙◌}
use mathlib.Core.Bool.{Bool, true, false}
use mathlib.Core.List.{List, [], ◌∷◌, ◌++◌, map, append_assoc, map-append}
use lib.ListN.{length, take, length-append}
use lib.Seq.{take_at}
use Rattle.definition.specs.Format.{times, whole}
use Rattle.definition.specs.Model.{Activity}
use Rattle.definition.specs.Pack.{activity}
use Rattle.definition.specs.Task.{Context, level_of, activity_of, activities_after, activities}
use Rattle.definition.specs.Text.{Text}
use Rattle.definition.specs.Tree.{Element}
use Rattle.laws.specs.Each.{Each, empty, next, each_append}
use Rattle.bits.specs.Places.{inside}
use Rattle.bits.specs.Steps.{Puts, put_no, put_more, put_same}
use Rattle.bits.specs.declared.Place.{Place}
use Rattle.pack.specs.Writes.{Writes, put_any}
use Rattle.pack.specs.declared.record.Records.{Records}

abbrev pub ids_of : List Activity → List Text
ids_of = map (λ (a : Activity). a.id)

-- so many are put, and those of the tasks ts are left
pub record Written (Fits : Activity → Type 0) (x : Context) (entered : ℕ → Bool) (d₀ : List ℕ) (p : Place) (d : List ℕ) (q : Place) (row : ℕ) (ts : List Element) : Type 0 where
  pub before : List Element
  pub done : List Activity
  pub split : before ++ ts ≡ x.tasks
  pub tasks_are : length before ≡ row
  pub done_are : length done ≡ row
  pub rest : activities_after x entered done (map level_of before) ts ≡ activities x entered
  pub puts : Puts (times (length (activities x entered)) (whole activity)) done d₀ p d q
  pub fits : Each Fits done

module _ {Fits : Activity → Type 0} {x : Context} {entered : ℕ → Bool} {d₀ : List ℕ} {p : Place} where
  pub written_none : {ts : List Element} → x.tasks ≡ ts → Written Fits x entered d₀ p d₀ p 0 ts
  unfolding activities
  written_none {ts} e = record {
    before = [];
    done = [];
    split = sym e;
    tasks_are = refl;
    done_are = refl;
    rest = ap (activities_after x entered [] []) (sym e);
    puts = put_no (length (activities x entered)) (whole activity) d₀ p;
    fits = empty;
  }

  module _ {d : List ℕ} {q : Place} {row : ℕ} where
    -- none is left
    pub written_all : {r : Records} → r.next ≡ q → r.count ≡ row → row < 2 ^ 32 → {ts : List Element} → ts ≡ [] → Written Fits x entered d₀ p d q row ts → Writes (whole activity) (activities x entered) d₀ p d r
    unfolding activities_after
    written_all {r} n c b {ts} z w =
        let e : w.done ≡ activities x entered = ap (activities_after x entered w.done (map level_of w.before)) (sym z) ∙ w.rest in
        let l : length (activities x entered) ≡ row = ap length (sym e) ∙ w.done_are in
        record { puts = rw n (put_same e w.puts); counts = c ∙ omega (arith, l) }

    module _ {t : Element} {ts : List Element} (w : Written Fits x entered d₀ p d q row (t ∷ ts)) where
      -- the next one
      abbrev pub next_of : Activity
      next_of = activity_of x (ids_of w.done) (map level_of w.before) (entered (length w.done)) t

      -- by what its values are; past the end any will do
      pub next_put : (z : Context) (ids : List Text) (levels : List ℕ) (e : Bool) {d' : List ℕ} {r : Place} → Puts (whole activity) (activity_of z ids levels e t) d q d' r
          → (inside (length d) q ≡ true → (z ≡ x) × (ids ≡ ids_of w.done)) → levels ≡ map level_of w.before → e ≡ entered (length w.done) → Puts (whole activity) next_of d q d' r
      next_put z ids levels e {d'} {r} h k hl he = by (inside (length d) q) refl
        where
          by : (b : Bool) → inside (length d) q ≡ b → Puts (whole activity) next_of d q d' r
          by false i = put_any next_of i h
          by true i =
              let (kz, ki) = k i in
              put_same (λ j. activity_of (kz j) (ki j) (hl j) (he j) t) h

      -- one more
      pub written_more : {d' : List ℕ} {r : Place} → Fits next_of → Puts (whole activity) next_of d q d' r → {us : List Element} → ts ≡ us → Written Fits x entered d₀ p d' r (row + 1) us
      unfolding activities_after
      written_more {d'} {r} f h {us} z =
          let new = next_of in
          record {
            before = w.before ++ (t ∷ []);
            done = w.done ++ (new ∷ []);
            split = append_assoc w.before (t ∷ []) us ∙ ap (λ (us : List Element). w.before ++ (t ∷ us)) (sym z) ∙ w.split;
            tasks_are = length-append w.before (t ∷ []) ∙ ap (λ (n : ℕ). n + 1) w.tasks_are;
            done_are = length-append w.done (new ∷ []) ∙ ap (λ (n : ℕ). n + 1) w.done_are;
            rest = (λ j. activities_after x entered (w.done ++ (new ∷ [])) (map-append level_of w.before (t ∷ []) j) (sym z j)) ∙ w.rest;
            puts = put_more (length (activities x entered)) w.puts h;
            fits = each_append w.fits (next f empty);
          }

      -- those before it
      pub tasks_before : take row x.tasks ≡ w.before
      tasks_before = ap (take row) (sym w.split) ∙ take_at w.before (t ∷ ts) row w.tasks_are
