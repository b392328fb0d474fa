-- What is made of a value that stands before a place, put part by part: it still stands behind what was put. Assumes nothing.
use Rattle.std.proofs.Common.{◌≡◌, ℕ, ◌≤◌, Bool, true, false, List, length, refl, ap, arith}
use Rattle.definition.specs.Format.{Format, ◌⊗◌, whole}
use Rattle.laws.specs.Formats.{Good}
use Rattle.bits.specs.Places.{at, inside, Fits, fits_room}
use Rattle.bits.specs.Reads.{Reads}
use Rattle.bits.specs.Round.{put_stood, put_inside, stood_before}
use Rattle.bits.specs.Steps.{Puts, Pads, put-⊗, put_whole}
use Rattle.bits.specs.declared.Place.{Place}
use Rattle.pack.specs.Writes.{put_any}
use Rattle.names.specs.Kept.{Kept, there_at, reads_there}
use Rattle.calendar_days.specs.Days.{PutsOver}
use Rattle.calendar_days.specs.Over.{Over, Lasts}

-- ---- where there is room

-- a value that was read fits, and stands from a place inside on
pub read_from : {A : Type 0} {f : Format A} {F : A → Type 0} (g : Good f F) {a : A} {d : List ℕ} {p r : Place} → Reads f d p a r → inside (length d) r ≡ true → F a × ((at p ≤ at r) × (inside (length d) p ≡ true))
read_from g {d = d} {p} h i =
    let (x, t) = reads_there g h i in
    let f : Fits (length d) p 0 = record { bit = t.began.bit; ends = omega (arith, t.began.ends) } in
    (x, (omega (arith, there_at t), fits_room f))

-- what stood before a place does behind what was put
pub lasts_put : {A C : Type 0} {f : Format A} {a : A} {B : List ℕ → Place → C → Type 0} {d : List ℕ} {p : Place} {d' : List ℕ} {q : Place} → Lasts B → Puts f a d p d' q → inside (length d') q ≡ true
    → (c : C) → (inside (length d) p ≡ true → B d p c) → B d' q c
lasts_put {d = d} {p} {d'} {q} l x h c k =
    let st = put_stood x h in
    let kept : Kept (at p) d d' = record { same = x.step.same; bits = stood_before st } in
    l.lasts d p d' q kept (omega (arith, ap at st.ends)) c (k (put_inside x h))

-- ---- one after another

pub over_plain : {A C : Type 0} {f : Format A} {B : List ℕ → Place → C → Type 0} {a : A} {d : List ℕ} {p : Place} {d' : List ℕ} {q : Place} → Puts f a d p d' q → Over f B (λ c. a) d p d' q
over_plain x = record { puts = λ c k. x }

module _ {A C : Type 0} {f : Format A} {B : List ℕ → Place → C → Type 0} {d : List ℕ} {p : Place} {d1 : List ℕ} {p1 : Place} {of : C → A} where
  -- the same, said otherwise where the value stands there
  pub over_as : (to : C → A) → ((c : C) → B d p c → of c ≡ to c) → Over f B of d p d1 p1 → Over f B to d p d1 p1
  over_as to e h = record { puts = λ c k. by_room c k (inside (length d) p) refl }
    where
      by_room : (c : C) → (inside (length d) p ≡ true → B d p c) → (t : Bool) → inside (length d) p ≡ t → Puts f (to c) d p d1 p1
      by_room c k true z = rw (← e c (k z)) (h.puts c k)
      by_room c k false z = put_any (to c) z (h.puts c k)

  pub over-⊗ : Lasts B → {E : Type 0} {g : Format E} {to : C → E} {d2 : List ℕ} {p2 : Place} → Over f B of d p d1 p1 → Over g B to d1 p1 d2 p2 → Over (f ⊗ g) B (λ c. (of c, to c)) d p d2 p2
  over-⊗ l h i = record { puts = λ c k. let x = h.puts c k in put-⊗ x (i.puts c (λ e. lasts_put l x e c k)) }

  pub over_whole : {d2 : List ℕ} {p2 : Place} → Over f B of d p d1 p1 → Pads d1 p1 d2 p2 → Over (whole f) B of d p d2 p2
  over_whole h i = record { puts = λ c k. put_whole (h.puts c k) i }

-- a part that is put over the value's
pub over_part : {A C : Type 0} {f : Format A} {B : List ℕ → Place → C → Type 0} {P : A → Type 0} {T : A → A} (part : C → A) {d : List ℕ} {p : Place} {d' : List ℕ} {q : Place}
    → ((c : C) → B d p c → P (part c)) → PutsOver f P T d p d' q → Over f B (λ c. T (part c)) d p d' q
over_part {C = C} {f = f} {B} {P} {T} part {d} {p} {d'} {q} to h = record { puts = λ c k. by_room c k (inside (length d) p) refl }
  where
    by_room : (c : C) → (inside (length d) p ≡ true → B d p c) → (t : Bool) → inside (length d) p ≡ t → Puts f (T (part c)) d p d' q
    by_room c k true e = h.over (part c) (to c (k e))
    by_room c k false e = h.out e (T (part c))
