-- Date texts: the first ten bytes, and a text cut at its first `-`. Assumes nothing.
use Prim.Native.Nat.{◌≤◌}
use mathlib.Core.Path.{◌≡◌, refl, sym}
use mathlib.Core.Bool.{true, false}
use Rattle.std.specs.Prelude.{Option, Some, None}
use lib.ListN.{length, take, get_or, get_or-eq_default}
use lib.Seq.{take_all}
use Rattle.definition.specs.Base.{◌>>=◌, within}
use Rattle.definition.specs.Text.{Text}
use Rattle.definition.specs.Date.{first_ten}

-- ---- the first ten bytes

pub ten_short : (s : Text) → length s ≤ 10 → s ≡ first_ten s
unfolding first_ten
ten_short s h = rw (get_or-eq_default s 0 {n = 10} h) (sym (take_all 10 s h))

pub ten_all : (s : Text) → within 0x80 0xBF (get_or s 10 0) ≡ true → s ≡ first_ten s
unfolding first_ten
ten_all s e = rw e

pub ten_first : (s : Text) → within 0x80 0xBF (get_or s 10 0) ≡ false → take 10 s ≡ first_ten s
unfolding first_ten
ten_first s e = rw e

-- ---- a part of a date

pub nothing : {A B : Type 0} (o : Option A) → ◌>>=◌ {B = B} o (λ a. None) ≡ None
nothing None = refl
nothing (Some a) = refl
