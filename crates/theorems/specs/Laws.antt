-- Laws of the definitions of texts, of number texts and of the pieces of a duration. Assumes nothing.
use Rattle.std.specs.Prelude.{if◌then◌else◌, ◌≡◌, refl, Bool, true, false, ◌||◌, [], ◌∷◌, ◌++◌, reverse, ℕ, zero, suc, ◌+◌, ◌-◌, ◌*◌, ◌/◌, ◌%◌, ◌^◌, ◌≤◌, ◌<◌, leb, ltb, eqb, length, get_or}
use Rattle.definition.specs.declared.Unread.TheVariants.{Long}
use Rattle.std.specs.Prelude.{Err, Ok}
use Rattle.std.proofs.Common.{sym, ap, ◌∙◌, append-nil, append_assoc, mul-one, pow-suc, div-lt_iff_lt-mul, arith, leb-true, ltb-true, eqb-true, le-leb, lt-ltb, ne_eqb}
use Rattle.std.proofs.Math.Bool.{and-false}
use Rattle.std.proofs.lemmas.List.{reverse-append, reverse-reverse}
use Rattle.std.specs.Prelude.{Option, Some, None}
use Rattle.std.proofs.lemmas.Bool.{lt-leb}
use Rattle.std.specs.Float.Ieee.{round}
use Rattle.std.specs.Float.{binary64}
use Rattle.definition.specs.Base.{◌>>=◌}
use Rattle.definition.specs.Text.{Text, white1, front_width, back_width, strip, trim_front, trim_back, trim, before, after, is_digit, digits_after, digits, bare, sign_of, unsigned_of}
use Rattle.definition.specs.Number.{is_dot, is_e, decimal_of, most_digits, short?, nearest, number_of, float, zero_float}
use Rattle.definition.specs.Duration.{is_unit, set_unit, piece_of, ◌then◌, time_figures, decimal_up, decimal}
use Rattle.definition.specs.Time.{two_digits}
use Rattle.definition.specs.declared.Figures.{Figures}
use Rattle.laws.specs.Bools.{and_left, and_right}
use Rattle.theorems.specs.Whole.{float_whole, le_whole}

-- ---- parts of a text

-- no byte of the text passes the test
pub data Free (p : ℕ → Bool) : Text → Type 0 where
  empty : Free p []
  next : {b : ℕ} {s : Text} → p b ≡ false → Free p s → Free p (b ∷ s)

pub before_free : {p : ℕ → Bool} {s : Text} → Free p s → before p s ≡ s
unfolding before
before_free empty = refl
before_free (next {b = b} h f) = rw h (ap (λ (l : Text). b ∷ l) (before_free f))

pub after_free : {p : ℕ → Bool} {s : Text} → Free p s → after p s ≡ None
unfolding after
after_free empty = refl
after_free (next h f) = rw h (after_free f)

pub before_append : {p : ℕ → Bool} {s : Text} (b : ℕ) (t : Text) → Free p s → p b ≡ true → before p (s ++ (b ∷ t)) ≡ s
unfolding before
before_append b t empty k = rw k
before_append b t (next {b = a} h f) k = rw h (ap (λ (l : Text). a ∷ l) (before_append b t f k))

pub after_append : {p : ℕ → Bool} {s : Text} (b : ℕ) (t : Text) → Free p s → p b ≡ true → after p (s ++ (b ∷ t)) ≡ Some t
unfolding after
after_append b t empty k = rw k
after_append b t (next h f) k = rw h (after_append b t f k)

-- ---- trimming

-- a byte of ASCII that is no white space: no white space begins or ends with it
pub record Plain (b : ℕ) : Type 0 where
  pub ascii : b < 128
  pub black : white1 b ≡ false

pub plain_digit : (b : ℕ) → 48 ≤ b → b ≤ 57 → Plain b
plain_digit b l u = record { ascii = omega arith; black = simp (lt-leb b 13 (omega arith), ne_eqb b 32 (λ e. omega arith), and-false) }

-- a byte of ASCII differs from any other
other : {b : ℕ} (c : ℕ) → b < 128 → 128 ≤ c → eqb b c ≡ false
other {b} c h k = ne_eqb b c (λ e. omega arith)

pub front_plain : (a b c : ℕ) → Plain a → front_width a b c ≡ 0
unfolding front_width
front_plain a b c h =
    rw (h.black, other 0xC2 h.ascii (omega arith), other 0xE1 h.ascii (omega arith), other 0xE2 h.ascii (omega arith), other 0xE3 h.ascii (omega arith))

pub back_plain : (a b c : ℕ) → Plain a → back_width a b c ≡ 0
unfolding back_width
back_plain a b c h =
    rw h.black
    (simp (
      other 0x85 h.ascii (omega arith),
      other 0xA0 h.ascii (omega arith),
      other 0x80 h.ascii (omega arith),
      other 0xAF h.ascii (omega arith),
      other 0x9F h.ascii (omega arith),
      lt-leb 0x80 a h.ascii,
      lt-leb 0xA8 a (omega (arith, h.ascii)),
      and-false,
    ))

pub strip_none : (width : ℕ → ℕ → ℕ → ℕ) (n : ℕ) (s : Text) → width (get_or s 0 0) (get_or s 1 0) (get_or s 2 0) ≡ 0 → strip width n s ≡ s
unfolding strip
strip_none width zero s h = refl
strip_none width (suc n) s h = rw h (strip_none width n s h)

-- a text that begins and ends so is left as it is
pub trim_plain : (s : Text) → Plain (get_or s 0 0) → Plain (get_or (reverse s) 0 0) → trim s ≡ s
unfolding trim trim_front trim_back
trim_plain s h k =
    let r = reverse s in
    rw (strip_none front_width (length s) s (front_plain (get_or s 0 0) (get_or s 1 0) (get_or s 2 0) h))
    (rw (strip_none back_width (length s) r (back_plain (get_or r 0 0) (get_or r 1 0) (get_or r 2 0) k)) (reverse-reverse s))

pub trim_ends : (a : ℕ) (s : Text) (z : ℕ) → Plain a → Plain z → trim (a ∷ (s ++ (z ∷ []))) ≡ a ∷ (s ++ (z ∷ []))
trim_ends a s z h k = trim_plain (a ∷ (s ++ (z ∷ []))) h (rw (reverse-append (a ∷ s) (z ∷ [])) k)

-- ---- digits

after_digits_free : {p : ℕ → Bool} (q : (b : ℕ) → 48 ≤ b → b ≤ 57 → p b ≡ false) (v : ℕ) (s : Text) (n : ℕ) → digits_after v s ≡ Some n → Free p s
unfolding digits_after
after_digits_free q v [] n h = empty
after_digits_free {p} q v (b ∷ s) n h = go (is_digit b) refl (digits_after (v * 10 + (b - 48)) s) (after_digits_free q (v * 10 + (b - 48)) s n) h
  where
    go : (t : Bool) → is_digit b ≡ t → (r : Option ℕ) → (r ≡ Some n → Free p s) → (if t then r else None) ≡ Some n → Free p (b ∷ s)
    go true e r f k = next (q b (leb-true 48 b (and_left (leb 48 b) (leb b 57) e)) (leb-true b 57 (and_right (leb 48 b) (leb b 57) e))) (f k)
    go false e r f k = let z : ◌≡◌ {A = ℕ} 0 1 = cc in absurd (omega arith)

pub digits_append : (v : ℕ) (s t : Text) → digits_after v (s ++ t) ≡ (digits_after v s >>= λ w. digits_after w t)
unfolding digits_after
digits_append v [] t = refl
digits_append v (b ∷ s) t = go (is_digit b) (digits_after (v * 10 + (b - 48)) s) (digits_after (v * 10 + (b - 48)) (s ++ t)) (digits_append (v * 10 + (b - 48)) s t)
  where
    go : (c : Bool) (r u : Option ℕ) → u ≡ (r >>= λ w. digits_after w t) → (if c then u else None) ≡ ((if c then r else None) >>= λ w. digits_after w t)
    go true r u h = h
    go false r u h = refl

digits_one : (v d : ℕ) → d < 10 → digits_after v ((d + 48) ∷ []) ≡ Some (v * 10 + d)
unfolding digits_after
digits_one v d h =
    let e : d + 48 - 48 ≡ d = omega arith in
    rw (le-leb 48 (d + 48) (omega arith), le-leb (d + 48) 57 (omega arith), e)

-- one more digit
pub digits_more : (v : ℕ) (s : Text) (w d : ℕ) → digits_after v s ≡ Some w → d < 10 → digits_after v (s ++ ((d + 48) ∷ [])) ≡ Some (w * 10 + d)
digits_more v s w d h l = digits_append v s ((d + 48) ∷ []) ∙ rw h (digits_one w d l)

-- digits, of which there is one at least
pub digits_some : (s : Text) (n : ℕ) → digits s ≡ Some n → digits_after 0 s ≡ Some n
unfolding digits
digits_some [] n h = let z : ◌≡◌ {A = ℕ} 0 1 = cc in absurd (omega arith)
digits_some (b ∷ s) n h = h

pub digits_snoc : (s : Text) (b : ℕ) → digits (s ++ (b ∷ [])) ≡ digits_after 0 (s ++ (b ∷ []))
unfolding digits
digits_snoc [] b = refl
digits_snoc (a ∷ s) b = refl

pub sign_free : {s : Text} → Free (λ b. eqb b 43) s → Free (λ b. eqb b 45) s → sign_of s ≡ bare
unfolding sign_of
sign_free empty empty = refl
sign_free (next h f) (next k g) = rw (h, k)

-- what no digit passes, no byte of a number in digits passes
pub digits_free : {p : ℕ → Bool} (q : (b : ℕ) → 48 ≤ b → b ≤ 57 → p b ≡ false) (s : Text) (n : ℕ) → digits s ≡ Some n → Free p s
digits_free q s n h = after_digits_free q 0 s n (digits_some s n h)

-- it has no sign
pub digits_bare : (s : Text) (n : ℕ) → digits s ≡ Some n → sign_of s ≡ bare
digits_bare s n h =
    sign_free (digits_free (λ b l u. ne_eqb b 43 (λ e. omega arith)) s n h) (digits_free (λ b l u. ne_eqb b 45 (λ e. omega arith)) s n h)

pub unsigned_digits : (w : ℕ) (s : Text) (n : ℕ) → digits s ≡ Some n → n < 2 ^ w → unsigned_of w s ≡ Some n
unfolding unsigned_of
unsigned_digits w s n h l = rw (digits_bare s n h, h, lt-ltb n (2 ^ w) l)

-- ---- numbers in decimal

-- a number in decimal, by whether it is below 10
abbrev decimal_by : Bool → ℕ → ℕ → Text
decimal_by t k n = if t then (n + 48) ∷ [] else decimal_up k (n / 10) ++ ((n % 10 + 48) ∷ [])

decimal_after : (k n : ℕ) → n < 10 ^ k → digits_after 0 (decimal_up k n) ≡ Some n
unfolding digits_after decimal_up
decimal_after zero n h = ap Some (omega arith)
decimal_after (suc k) n h = go (ltb n 10) refl (decimal_after k (n / 10))
  where
    go : (t : Bool) → ltb n 10 ≡ t → (n / 10 < 10 ^ k → digits_after 0 (decimal_up k (n / 10)) ≡ Some (n / 10)) → digits_after 0 (decimal_by t k n) ≡ Some n
    go true e f = digits_one 0 n (ltb-true n 10 e) ∙ ap Some (omega arith)
    go false e f =
        digits_more 0 (decimal_up k (n / 10)) (n / 10) (n % 10) (f ((div-lt_iff_lt-mul (omega arith)).1 (rw pow-suc at h))) (omega arith) ∙ ap Some (omega arith)

decimal_some : (k n : ℕ) → digits (decimal_up (suc k) n) ≡ digits_after 0 (decimal_up (suc k) n)
unfolding digits decimal_up
decimal_some k n = go (ltb n 10)
  where
    go : (t : Bool) → digits (decimal_by t k n) ≡ digits_after 0 (decimal_by t k n)
    go true = refl
    go false = digits_snoc (decimal_up k (n / 10)) (n % 10 + 48)

-- a number in decimal is read back
pub digits_decimal : (n : ℕ) → n < 10 ^ 20 → digits (decimal n) ≡ Some n
digits_decimal n h = decimal_some 19 n ∙ decimal_after 20 n h

-- and so are two digits
pub digits_two : (n : ℕ) → n < 100 → digits (two_digits n) ≡ Some n
digits_two n h =
    digits_snoc ((n / 10 + 48) ∷ []) (n % 10 + 48)
    ∙ digits_more 0 ((n / 10 + 48) ∷ []) (n / 10) (n % 10) (digits_one 0 (n / 10) (omega arith) ∙ ap Some (omega arith)) (omega arith)
    ∙ ap Some (omega arith)

-- a text of digits as a decimal
pub decimal_of_digits : (s : Text) (n : ℕ) → digits s ≡ Some n → decimal_of s ≡ Some (record { digits = n; up = 0; down = 0 })
unfolding decimal_of
decimal_of_digits s n h =
    let e : Free is_e s = digits_free (λ b l u. rw (ne_eqb b 101 (λ e. omega arith), ne_eqb b 69 (λ e. omega arith))) s n h in
    let d : Free is_dot s = digits_free (λ b l u. ne_eqb 46 b (λ e. omega arith)) s n h in
    rw (before_free e, before_free d, after_free e, after_free d, append-nil s, h)

pub float_zero : float 0 ≡ zero_float
unfolding round
float_zero = refl

-- a number in digits alone is the float of it
pub number_digits : (s : Text) (n : ℕ) → digits s ≡ Some n → n < 10 ^ most_digits → number_of s ≡ Ok (float n)
unfolding number_of short? nearest
number_digits s n h l = rw (digits_bare s n h, decimal_of_digits s n h, lt-ltb n (10 ^ most_digits) l) (go (eqb n 0) refl)
  where
    go : (t : Bool) → eqb n 0 ≡ t → (if t || true then Ok (if t then zero_float else round binary64 false (n * 1) 1) else (Err Long)) ≡ Ok (float n)
    go true e = ap Ok (sym (ap float (eqb-true n 0 e) ∙ float_zero))
    go false e = rw mul-one

-- ---- the pieces of a duration

-- a number in digits alone
pub piece_digits : (s : Text) (n : ℕ) → digits s ≡ Some n → n < 10 ^ most_digits → piece_of s ≡ Ok (float n)
unfolding piece_of
piece_digits s n h l = rw (number_digits s n h l, le_whole zero_float (float n) 0 n (refl, refl) (float_whole n (omega arith)) (omega arith))

-- what stands before a unit is that unit's piece
pub figures_piece : {s : Text} (u : ℕ) (t part : Text) (f : Figures) → Free is_unit s → is_unit u ≡ true
    → time_figures (s ++ (u ∷ t)) part f ≡ (piece_of (part ++ s) then λ x. time_figures t [] (set_unit u x f))
unfolding time_figures
figures_piece u t part f empty k = rw (k, append-nil part)
figures_piece u t part f (next {b = b} {s = s} h g) k =
    rw h
    (figures_piece u t (part ++ (b ∷ [])) f g k
    ∙ ap (λ (l : Text). piece_of l then λ x. time_figures t [] (set_unit u x f)) (append_assoc part (b ∷ []) s))
