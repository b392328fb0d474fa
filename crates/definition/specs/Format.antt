-- How values are packed. Document 01: flag 1 bit; code 4 bits; time 11; date 32 signed; count and row 32; number 64 signed. Text: count, zero
-- bits to a byte, bytes. Optional: flag, then the value if 1. List: count, then items, strictly rising. A period is two times. Each record
-- begins at a whole byte. A format says both how a value is written and what is read back: `get` refuses what is cut, a set pad bit, an
-- unknown code, a time over 1440, a date outside the years, a list that does not rise, a period not from below to, bad UTF-8.
-- Assumes nothing.
use Rattle.std.specs.Prelude.{if◌then◌else◌, ℕ, zero, suc, ◌+◌, ◌*◌, ◌%◌, Bool, true, false, ◌&&◌, ◌||◌, List, [], ◌∷◌, ◌++◌, length, take, drop, replicate, leb, ltb, eqb, ℤ}
use Rattle.std.specs.Prelude.{Option, Some, None}
use Rattle.definition.specs.Base.{◌>>=◌, when, given, same, within}
use Rattle.definition.specs.Bits.{Bits, enc, dec, bits_of, bytes_up_to, pad, twos, signed}
use Rattle.definition.specs.Text.{Text, is_utf8}
use Rattle.definition.specs.Date.{Date, day_number, from_days}
use Rattle.definition.specs.Time.{most_time}

-- put: the bits of a value behind so many bits; get: the value at the front of bits that end at a byte, and what follows it
pub record Format (A : Type 0) : Type 0 where
  pub put : ℕ → A → Bits
  pub get : Bits → Option (A × Bits)

-- ---- how formats are made

-- w bits
unfoldable pub field : ℕ → Format ℕ
field w = record { put = λ n v. enc w v; get = λ l. when (leb w (length l)) (dec (take w l), drop w l) }

infixr 20 ◌⊗◌
-- one and then another
unfoldable pub ◌⊗◌ : {A B : Type 0} → Format A → Format B → Format (A × B)
f ⊗ g = record {
  put = λ n p. f.put n p.0 ++ g.put (n + length (f.put n p.0)) p.1;
  get = λ l. f.get l >>= λ x. g.get x.1 >>= λ y. Some ((x.0, y.0), y.1);
}

-- values that stand for others: each has one, and not each is one
unfoldable pub via : {A B : Type 0} → (A → Option B) → (B → A) → Format A → Format B
via to from f = record { put = λ n b. f.put n (from b); get = λ l. f.get l >>= λ x. to x.0 >>= λ b. Some (b, x.1) }

abbrev pub put_given : {B : Type 0} → Format B → ℕ → Option B → Bits
put_given g n None = []
put_given g n (Some b) = g.put n b

abbrev pub get_given : {B : Type 0} → Bool → Format B → Bits → Option (Option B × Bits)
get_given false g l = Some (None, l)
get_given true g l = g.get l >>= λ y. Some (Some y.0, y.1)

-- a value, and another where a test of the first says so
unfoldable pub depending : {A B : Type 0} → Format A → (A → Bool) → Format B → Format (A × Option B)
depending f test g = record {
  put = λ n p. f.put n p.0 ++ put_given g (n + length (f.put n p.0)) p.1;
  get = λ l. f.get l >>= λ x. get_given (test x.0) g x.1 >>= λ y. Some ((x.0, y.0), y.1);
}

-- so many, one after another
unfoldable pub put_all : {A : Type 0} → Format A → ℕ → List A → Bits
put_all f n [] = []
put_all f n (x ∷ xs) = f.put n x ++ put_all f (n + length (f.put n x)) xs

unfoldable pub get_all : {A : Type 0} → Format A → ℕ → Bits → Option (List A × Bits)
get_all f zero l = Some ([], l)
get_all f (suc k) l = f.get l >>= λ x. get_all f k x.1 >>= λ y. Some (x.0 ∷ y.0, y.1)

unfoldable pub times : {A : Type 0} → ℕ → Format A → Format (List A)
times k f = record { put = put_all f; get = get_all f k }

-- zero bits to a byte. What is left ends at a byte, so as many bits stand before the next one as are over a multiple of 8
unfoldable pub get_pad : Bits → Option Bits
get_pad l = when (same (take (length l % 8) l) (replicate (length l % 8) 0)) (drop (length l % 8) l)

-- a value and zero bits to a byte
unfoldable pub whole : {A : Type 0} → Format A → Format A
whole f = record {
  put = λ n a. f.put n a ++ pad (n + length (f.put n a));
  get = λ l. f.get l >>= λ x. get_pad x.1 >>= λ rest. Some (x.0, rest);
}

-- ---- the fields

-- the widths of a count or row, and of a number
abbrev pub count_width : ℕ
count_width = 32

abbrev pub number_width : ℕ
number_width = 64

abbrev pub count : Format ℕ
count = field count_width

abbrev pub row : Format ℕ
row = field count_width

abbrev pub bit : Bool → ℕ
bit true = 1
bit false = 0

unfoldable pub flag : Format Bool
flag = via (λ v. Some (eqb v 1)) bit (field 1)

-- a code from lo to hi
unfoldable pub code : ℕ → ℕ → Format ℕ
code lo hi = via (λ v. when (within lo hi v) v) (λ v. v) (field 4)

unfoldable pub time : Format ℕ
time = via (λ v. when (leb v most_time) v) (λ v. v) (field 11)

unfoldable pub number : Format ℤ
number = via (λ v. Some (signed number_width v)) (twos number_width) (field number_width)

unfoldable pub date : Format Date
date = via (λ v. from_days (signed 32 v)) (λ d. twos 32 (day_number d)) (field 32)

abbrev pub Period : Type 0
Period = ℕ × ℕ

unfoldable pub period : Format Period
period = via (λ p. when (ltb p.0 p.1) p) (λ p. p) (time ⊗ time)

unfoldable pub text : Format Text
text = record {
  put = λ n s. (whole count).put n (length s) ++ bits_of s;
  get = λ l. (whole count).get l >>= λ x.
      let s = bytes_up_to x.0 x.1 in
      if ltb (length x.1) (8 * x.0) then None else
      when (is_utf8 s) (s, drop (8 * x.0) x.1);
}

unfoldable pub optional : {A : Type 0} → Format A → Format (Option A)
optional f = via (λ p. Some p.1) (λ o. (given o, o)) (depending flag (λ b. b) f)

-- each item below the next
unfoldable pub rises : {A : Type 0} → (A → A → Bool) → List A → Bool
rises lt [] = true
rises lt (x ∷ []) = true
rises lt (x ∷ y ∷ l) = lt x y && rises lt (y ∷ l)

-- a count and so many items, which rise
unfoldable pub list_of : {A : Type 0} → (A → A → Bool) → Format A → Format (List A)
list_of lt f = record {
  put = λ n l. count.put n (length l) ++ put_all f (n + count_width) l;
  get = λ l. count.get l >>= λ x. get_all f x.0 x.1 >>= λ y. when (rises lt y.0) y;
}

-- periods rise by from, then by to
abbrev pub earlier : Period → Period → Bool
earlier p q = ltb p.0 q.0 || (eqb p.0 q.0 && ltb p.1 q.1)

unfoldable pub periods : Format (List Period)
periods = list_of earlier period

unfoldable pub dates : Format (List Date)
dates = list_of ltb date
