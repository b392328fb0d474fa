-- A section while it is written: which records stand there, and what one more element adds. Assumes nothing: these are definitions.
use Rattle.std.specs.Prelude.{◌≡◌, ℕ, ◌%◌, ◌^◌, Bool, true, ◌||◌, List, length}
use Rattle.definition.specs.Format.{Format, times}
use Rattle.bits.specs.Places.{inside}
use Rattle.bits.specs.Steps.{Puts}
use Rattle.bits.specs.declared.Place.{Place}
use Rattle.pack.specs.declared.record.Records.{Records}
use Rattle.assignments.specs.declared.section.Done.{Done}

-- all of them, and their number as 32 bits hold it where they fitted
pub record WritesIn {A : Type 0} (f : Format A) (xs : List A) (d : List ℕ) (p : Place) (d' : List ℕ) (r : Records) : Type 0 where
  pub puts : Puts (times (length xs) f) xs d p d' r.next
  pub counts : inside (length d') r.next ≡ true → r.count ≡ length xs % 2 ^ 32

-- all of them so far, and their number as 64 bits hold it: for sure, or where they fitted
pub record Wrote {A : Type 0} (f : Format A) (sure : Bool) (xs : List A) (d : List ℕ) (p : Place) (d' : List ℕ) (r : Done) : Type 0 where
  pub puts : Puts (times (length xs) f) xs d p d' r.next
  pub counts : (sure || inside (length d') r.next) ≡ true → r.count ≡ length xs % 2 ^ 64

-- where records were written from a place on in a buffer of which something holds, G of them are now
pub record Goes {A : Type 0} (f : Format A) (sure : Bool) (p : Place) (Ok : List ℕ → List A → Type 0) (G : List ℕ → List A → List A) (d : List ℕ) (r : Done) (d' : List ℕ) (r' : Done) : Type 0 where
  pub goes : (d₀ : List ℕ) (xs : List A) → Ok d₀ xs → Wrote f sure xs d₀ p d r → Wrote f sure (G d₀ xs) d₀ p d' r'
