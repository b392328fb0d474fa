-- Laws for lists. Assumes nothing.
use mathlib.Core.Path.{◌≡◌, refl, sym, ap, ◌∙◌}
use mathlib.Core.Bool.{Bool, true, false}
use mathlib.Core.List.{List, [], ◌∷◌}
use Rattle.std.specs.Prelude.{Option, Some}
use Prim.Native.Nat.{ℕ, zero, suc, ◌<◌}
use native.Mathlib.Omega.{arith}
use lib.ListN.{length, take, drop}
use lib.Dec.{leb}
use borrow.Author.Tests.{le-leb, lt-leb, leb-true, leb-false}
use Rattle.definition.specs.Base.{◌>>=◌, when}
use Rattle.definition.specs.Bits.{Bits, dec}
use Rattle.definition.specs.Date.{Date}
use Rattle.definition.specs.Format.{◌⊗◌, field, flag, times, periods, date}
use Rattle.bits.specs.Reads.{Reads, read-⊗, read_nothing, refuse_first, refuse_second}
use Rattle.bits.specs.declared.Place.{Place}
use Rattle.bits.specs.declared.Field.{Field}
use Rattle.model.specs.Lax.{behind, left, Like, left_zero, left_suc, like_then, like_times, like_named}
use Rattle.model.specs.Passes.{Passes, Told, refusing, reading, told, pass_like}
use Rattle.model.specs.Rising.{Found, Finds, DayKey, day_of}

-- ---- flags

left_field : (w : ℕ) (l : Bits) → left (field w) l ≡ when (leb w (length l)) (drop w l)
unfolding field
left_field w l = by_room (leb w (length l))
  where
    by_room : (t : Bool) → behind {A = ℕ} (when t (dec (take w l), drop w l)) ≡ when t (drop w l)
    by_room true = refl
    by_room false = refl

one_more : (n : ℕ) (b : ℕ) (l : Bits) → when (leb n (length l)) (drop n l) ≡ when (leb (suc n) (length (b ∷ l))) (drop (suc n) (b ∷ l))
one_more n b l = by_room (leb n (length l)) refl
  where
    by_room : (t : Bool) → leb n (length l) ≡ t → when t (drop n l) ≡ when (leb (suc n) (suc (length l))) (drop n l)
    by_room true e = rw (le-leb (suc n) (suc (length l)) (omega (arith, leb-true n (length l) e)))
    by_room false e = rw (lt-leb (suc n) (suc (length l)) (omega (arith, leb-false n (length l) e)))

bit_by_bit : (n : ℕ) (l : Bits) → when (leb n (length l)) (drop n l) ≡ left (times n (field 1)) l
bit_by_bit zero l = rw (le-leb 0 (length l) (omega arith)) (sym (left_zero (field 1) l))
bit_by_bit (suc n) [] = rw (lt-leb (suc n) 0 (omega arith)) (sym (left_suc (field 1) n [] ∙ rw (left_field 1 [])))
bit_by_bit (suc n) (b ∷ l) =
    let e : left (field 1) (b ∷ l) ≡ Some l = left_field 1 (b ∷ l) ∙ rw (le-leb 1 (suc (length l)) (omega arith)) in
    sym (left_suc (field 1) n (b ∷ l) ∙ ap (λ (o : Option Bits). o >>= left (times n (field 1))) e ∙ sym (bit_by_bit n l) ∙ one_more n b l)

like_flags : (n : ℕ) → Like (field n) (times n flag)
unfolding flag
like_flags n = like_then (record { like = λ l. left_field n l ∙ bit_by_bit n l }) (like_times n (like_named _ _ (field 1)))

pub pass_flags : (n : ℕ) {s : List ℕ} {p q : Place} → Passes (field n) s p q → Passes (times n flag) s p q
pass_flags n h = pass_like (like_flags n) h

-- ---- days

pub day_alone : {s : List ℕ} {p : Place} {x : Field ℕ Place} → Finds date (DayKey false) s p x → Finds (day_of false) (DayKey false) s p x
unfolding day_of
day_alone h = h

module _ {s : List ℕ} {p q : Place} {x : Field ℕ Place} (h : Finds date (DayKey false) s p x) (i : Passes periods s x.next q) where
  dated : {d : Date} → Reads date s p d x.next → d ≡ x.value → 0 < x.value → Told periods s x.next q → Found (date ⊗ periods) (DayKey true) s p x.value q
  dated {d} r e l (refusing n z) = record { item = (d, []); key = (e, l); reads = read_nothing (d, []) (refuse_second r n) z }
  dated {d} r e l (reading ps m z t) = record { item = (d, ps); key = (e, l); reads = read-⊗ r t }

  pub day_hours_lem : Finds (day_of true) (DayKey true) s p (record { value = x.value; next = q })
  unfolding day_of
  day_hours_lem =
      record {
        found = λ l. dated (h.found l).reads (h.found l).key.0 l (told i);
        refuses = λ z. refuse_first periods (h.refuses z);
        past = λ z. sym i.passes ∙ ap (λ (o : Option Bits). o >>= left periods) (h.past z);
      }
