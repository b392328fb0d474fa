-- How a probe gives what may be absent, or too long. Assumes nothing.
use Rattle.std.specs.Prelude.{ℕ, ◌≡◌, Bool, true, false, ℤ, pos, Float}
use Rattle.std.proofs.Common.{sym, ap, ◌∙◌, to_z, of_z, SFits}
use Rattle.std.specs.Prelude.{Option, Some, None, Ok, Err}
use Rattle.std.specs.Int.{Width}
use Rattle.std.proofs.lemmas.Int.{to_z-of_z}
use Rattle.definition.specs.Number.{Reading, zero_float}
use Rattle.definition.specs.declared.Duration.{Duration}
use Rattle.definition.specs.declared.Unread.TheVariants.{Absent, Long}

-- 0: there is a value
abbrev pub code : {A : Type 0} → Option A → ℕ
code (Some a) = 0
code None = 1

abbrev pub value : {A : Type 0} → A → Option A → A
value d (Some a) = a
value d None = d

-- the code r and the value v of what may be absent, d where it is
pub record Put {A : Type 0} (d : A) (o : Option A) (r : ℕ) (v : A) : Type 0 where
  pub said : r ≡ code o
  pub held : v ≡ value d o

abbrev pub Whole : Option ℕ → ℕ → ℕ → Type 0
Whole = Put 0

abbrev pub Signed : Option ℤ → ℕ → ℤ → Type 0
Signed = Put (pos 0)

-- 2: a number is too long
abbrev pub code_read : {A : Type 0} → Reading A → ℕ
code_read (Ok a) = 0
code_read (Err Absent) = 1
code_read (Err Long) = 2

abbrev pub value_read : {A : Type 0} → A → Reading A → A
value_read d (Ok a) = a
value_read d (Err e) = d

-- 1 for true
abbrev pub one : Bool → ℕ
one true = 1
one false = 0

abbrev nothing : Duration
nothing = record { minutes = 0; whole = false }

-- v: the minutes; w: 1 where the sum was whole
pub record Minutes (o : Reading Duration) (r v w : ℕ) : Type 0 where
  pub said : r ≡ code_read o
  pub held : v ≡ (value_read nothing o).minutes
  pub whole : w ≡ one (value_read nothing o).whole

pub record Number (o : Reading Float) (r : ℕ) (v : Float) : Type 0 where
  pub said : r ≡ code_read o
  pub held : v ≡ value_read zero_float o

-- the code and the value of an integer, and of none
module _ (o : Option ℤ) where
  pub signed_is : (w : Width) {z : ℤ} → o ≡ Some z → SFits w z → Signed o 0 (to_z w (of_z w z))
  signed_is w {z} e h = record { said = sym (ap code e); held = to_z-of_z w z h ∙ sym (ap (value (pos 0)) e) }

  pub signed_absent : o ≡ None → Signed o 1 (pos 0)
  signed_absent e = record { said = sym (ap code e); held = sym (ap (value (pos 0)) e) }
