-- Each item of a list. Assumes nothing.
use Rattle.std.specs.Prelude.{List, [], ◌∷◌, ◌++◌, ℕ, zero, suc, take, drop, replicate}
use Rattle.std.proofs.Common.{take-append-drop}

pub data Each {A : Type 0} (P : A → Type 0) : List A → Type 0 where
  empty : Each P []
  next : {x : A} {l : List A} → P x → Each P l → Each P (x ∷ l)

pub each_append : {A : Type 0} {P : A → Type 0} {s t : List A} → Each P s → Each P t → Each P (s ++ t)
each_append empty k = k
each_append (next h f) k = next h (each_append f k)

pub each_less : {A : Type 0} {P Q : A → Type 0} → ((x : A) → P x → Q x) → {l : List A} → Each P l → Each Q l
each_less f empty = empty
each_less f (next {x = x} h hs) = next (f x h) (each_less f hs)

pub each_front : {A : Type 0} {P : A → Type 0} (s t : List A) → Each P (s ++ t) → Each P s
each_front [] t h = empty
each_front (x ∷ s) t (next h f) = next h (each_front s t f)

pub each_back : {A : Type 0} {P : A → Type 0} (s t : List A) → Each P (s ++ t) → Each P t
each_back [] t h = h
each_back (x ∷ s) t (next h f) = each_back s t f

pub each_take : {A : Type 0} {P : A → Type 0} (n : ℕ) {l : List A} → Each P l → Each P (take n l)
each_take n {l} h = each_front (take n l) (drop n l) (rw take-append-drop h)

pub each_drop : {A : Type 0} {P : A → Type 0} (n : ℕ) {l : List A} → Each P l → Each P (drop n l)
each_drop n {l} h = each_back (take n l) (drop n l) (rw take-append-drop h)

pub each_replicate : {A : Type 0} {P : A → Type 0} (n : ℕ) (x : A) → P x → Each P (replicate n x)
each_replicate zero x h = empty
each_replicate (suc n) x h = next h (each_replicate n x h)
