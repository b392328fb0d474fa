-- What is made of a value that stands in a buffer before a place, as the base of a calendar does. Assumes nothing.
use Rattle.std.specs.Prelude.{◌≡◌, ℕ, ◌≤◌, true, List, length}
use Rattle.definition.specs.Format.{Format}
use Rattle.bits.specs.Places.{at, inside}
use Rattle.bits.specs.Steps.{Puts}
use Rattle.bits.specs.declared.Place.{Place}
use Rattle.names.specs.Kept.{Kept}

-- it was put, if the value stands there; nothing is asked of it where there is no room
pub record Over {A C : Type 0} (f : Format A) (B : List ℕ → Place → C → Type 0) (of : C → A) (d : List ℕ) (p : Place) (d' : List ℕ) (q : Place) : Type 0 where
  pub puts : (c : C) → (inside (length d) p ≡ true → B d p c) → Puts f (of c) d p d' q

-- what stands before a place still does before a later one, while the bits before the place stay
pub record Lasts {C : Type 0} (B : List ℕ → Place → C → Type 0) : Type 0 where
  pub lasts : (d : List ℕ) (p : Place) (d' : List ℕ) (q : Place) → Kept (at p) d d' → at p ≤ at q → (c : C) → B d p c → B d' q c
