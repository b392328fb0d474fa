-- The flags of a word: one of them, and a word with one of them replaced, tried at all 128 words and seven places. Assumes nothing.
use Rattle.std.proofs.Common.{◌≡◌, ℕ, zero, suc, ◌+◌, ◌-◌, ◌*◌, ◌/◌, ◌%◌, ◌^◌, ◌<◌, ◌≤◌, Bool, true, false, not, ◌&&◌, T, eqb, List, [], ◌∷◌, length, get_or, set, sym, refl, ap, ◌∙◌, subst, lt_of_le_of_lt, mod-lt, mod-eq_of_lt, zero-lt-suc, mul-le-mul, div-le_self, div-one, arith, eqb→eq, pow_pos, pow_mono, eq-eqb, ne_eqb, eqb-true}
use Rattle.std.specs.Prelude.{Option, Some, None}
use Rattle.std.specs.Int.{from_bool}
use lib.ListN.{get_or-eq_default}
use lib.Bits.{bit_and, bit_or, and_mask, or_shifted}
use lib.Ieee.Fits.{and_l, and_r}
use borrow.Author.Tests.{eqb-false}
use Rattle.definition.specs.Base.{◌>>=◌, ◌or◌}
use Rattle.definition.specs.Bits.{enc, dec}
use Rattle.definition.specs.Date.{Date, weekday}
use Rattle.definition.specs.Calendar.{works}
use Rattle.definition.specs.Format.{bit as bit_of}
use Rattle.calendar.specs.Week.{flags_in, flag_on, word_of, replaced}

-- ---- seven places

by_place : (P : ℕ → Type 0) → P 0 → P 1 → P 2 → P 3 → P 4 → P 5 → P 6 → (k : ℕ) → k ≤ 6 → P k
by_place P a b c d e f g zero h = a
by_place P a b c d e f g (suc zero) h = b
by_place P a b c d e f g (suc (suc zero)) h = c
by_place P a b c d e f g (suc (suc (suc zero))) h = d
by_place P a b c d e f g (suc (suc (suc (suc zero)))) h = e
by_place P a b c d e f g (suc (suc (suc (suc (suc zero))))) h = f
by_place P a b c d e f g (suc (suc (suc (suc (suc (suc zero)))))) h = g
by_place P a b c d e f g (suc (suc (suc (suc (suc (suc (suc k))))))) h = absurd (omega arith)

-- ---- one flag

pub seven : (w : ℕ) → length (flags_in w) ≡ 7
unfolding flags_in enc
seven w = refl

pub flag_is : (w k : ℕ) → k ≤ 6 → eqb 1 (w / 2 ^ (6 - k) % 2) ≡ get_or (flags_in w) k false
unfolding flags_in enc
flag_is w k h = by_place (λ (k : ℕ). eqb 1 (w / 2 ^ (6 - k) % 2) ≡ get_or (flags_in w) k false) refl refl refl refl refl refl refl k h

pub no_flag : (w k : ℕ) → 6 < k → false ≡ get_or (flags_in w) k false
no_flag w k h = sym (get_or-eq_default (flags_in w) false (omega (arith, seven w)))

-- a day's flag; none outside the years
pub works_is : (week : List Bool) (o : Option Date) → flag_on week (o >>= λ d. Some (weekday d)) ≡ (o >>= λ d. Some (works week d)) or false
works_is week None = refl
works_is week (Some d) = refl

pub set_past : {A : Type 0} (l : List A) (k : ℕ) (a : A) → length l ≤ k → l ≡ set l k a
set_past [] k a h = refl
set_past (x ∷ l) zero a h = absurd (omega arith)
set_past (x ∷ l) (suc k) a h = ap (λ m. x ∷ m) (set_past l k a (omega arith))

-- ---- all words

alike : List Bool → List Bool → Bool
alike [] [] = true
alike [] (b ∷ bs) = false
alike (a ∷ as') [] = false
alike (true ∷ as') (b ∷ bs) = b && alike as' bs
alike (false ∷ as') (b ∷ bs) = not b && alike as' bs

alike_is : (a b : List Bool) → T (alike a b) → a ≡ b
unfolding alike
alike_is [] [] t = refl
alike_is [] (b ∷ bs) t = absurd t
alike_is (a ∷ as') [] t = absurd t
alike_is (true ∷ as') (true ∷ bs) t = ap (λ l. true ∷ l) (alike_is as' bs t)
alike_is (true ∷ as') (false ∷ bs) t = absurd t
alike_is (false ∷ as') (true ∷ bs) t = absurd t
alike_is (false ∷ as') (false ∷ bs) t = ap (λ l. false ∷ l) (alike_is as' bs t)

below : ℕ → (ℕ → Bool) → Bool
below zero f = true
below (suc n) f = f n && below n f

below_at : (n : ℕ) (f : ℕ → Bool) → T (below n f) → (k : ℕ) → k < n → T (f k)
unfolding below
below_at zero f t k h = absurd (omega arith)
below_at (suc n) f t k h = by (eqb k n) refl (λ i. below_at n f (and_r (f n) (below n f) t) k i)
  where
    by : (b : Bool) → eqb k n ≡ b → (k < n → T (f k)) → T (f k)
    by true e go = subst (λ (m : ℕ). T (f m)) (sym (eqb-true k n e)) (and_l (f n) (below n f) t)
    by false e go = go (let z = eqb-false k n e in omega (arith, z))

right : ℕ → ℕ → Bool → Bool
right w k on = alike (flags_in (replaced w (6 - k) on)) (set (flags_in w) k on)

tried : T (below 128 (λ w. below 7 (λ k. right w k true && right w k false)))
unfolding below right alike flags_in enc
tried = tt

table : (w k : ℕ) (on : Bool) → w < 128 → k ≤ 6 → flags_in (replaced w (6 - k) on) ≡ set (flags_in w) k on
unfolding right
table w k on h i = by on
  where
    t : T (right w k true && right w k false)
    t = below_at 7 (λ k. right w k true && right w k false) (below_at 128 (λ w. below 7 (λ k. right w k true && right w k false)) tried w h) k (omega arith)

    by : (on : Bool) → flags_in (replaced w (6 - k) on) ≡ set (flags_in w) k on
    by true = alike_is _ _ (and_l (right w k true) (right w k false) t)
    by false = alike_is _ _ (and_r (right w k true) (right w k false) t)

last_mod : (w : ℕ) → w % 128 / 1 % 2 ≡ w / 1 % 2
last_mod w =
    let h : w % 128 % 2 ≡ w % 2 = omega arith in
    ap (λ (n : ℕ). n % 2) (div-one (w % 128)) ∙ h ∙ sym (ap (λ (n : ℕ). n % 2) (div-one w))

flags_mod : (w : ℕ) → flags_in (w % 128) ≡ flags_in w
unfolding flags_in enc
flags_mod w =
    let a : w % 128 / 64 % 2 ≡ w / 64 % 2 = omega arith in
    let b : w % 128 / 32 % 2 ≡ w / 32 % 2 = omega arith in
    let c : w % 128 / 16 % 2 ≡ w / 16 % 2 = omega arith in
    let d : w % 128 / 8 % 2 ≡ w / 8 % 2 = omega arith in
    let e : w % 128 / 4 % 2 ≡ w / 4 % 2 = omega arith in
    let f : w % 128 / 2 % 2 ≡ w / 2 % 2 = omega arith in
    let g = last_mod w in
    λ i. eqb 1 (a i) ∷ eqb 1 (b i) ∷ eqb 1 (c i) ∷ eqb 1 (d i) ∷ eqb 1 (e i) ∷ eqb 1 (f i) ∷ eqb 1 (g i) ∷ []

pub replaced_is : (w k v r : ℕ) (on : Bool) → k ≤ 6 → v ≡ w % 2 ^ 7 → r ≡ replaced v (6 - k) on → flags_in r ≡ set (flags_in w) k on
replaced_is w k v r on h e f =
    ap flags_in (f ∙ ap (λ (n : ℕ). replaced n (6 - k) on) e)
    ∙ table (w % 128) k on (mod-lt w (zero-lt-suc 127)) h
    ∙ ap (λ (l : List Bool). set l k on) (flags_mod w)

-- ---- the word of flags

backs : T (below 128 (λ w. eqb (word_of (flags_in w)) w))
unfolding below word_of flags_in enc dec
backs = tt

-- the seven low bits of a word are its flags'
pub word_back : (w : ℕ) (week : List Bool) → flags_in w ≡ week → w % 2 ^ 7 ≡ word_of week
word_back w week e =
    sym (eqb→eq (word_of (flags_in (w % 128))) (w % 128) (below_at 128 (λ w. eqb (word_of (flags_in w)) w) backs (w % 128) (mod-lt w (zero-lt-suc 127))))
    ∙ ap word_of (flags_mod w ∙ e)

-- ---- shifts and masks

pub low_bit : (w : ℕ) → bit_and w 1 ≡ w % 2
low_bit w = and_mask w 1

pub bit_is : (on : Bool) {b : ℕ} → b ≡ from_bool on → b ≡ bit_of on
bit_is on e = e ∙ by on
  where
    by : (on : Bool) → from_bool on ≡ bit_of on
    by true = refl
    by false = refl

pub bit_small : (on : Bool) → bit_of on < 2 ^ 1
bit_small true = omega arith
bit_small false = omega arith

pub eqb_turn : (n : ℕ) → eqb n 1 ≡ eqb 1 n
eqb_turn n = by (eqb n 1) refl
  where
    by : (t : Bool) → eqb n 1 ≡ t → t ≡ eqb 1 n
    by true e = sym (eq-eqb 1 n (sym (eqb-true n 1 e)))
    by false e = sym (ne_eqb 1 n (λ z. eqb-false n 1 e (sym z)))

-- a bit between those above it and the n low ones
pub bits_joined : (w n : ℕ) (on : Bool) {b l : ℕ} → w < 128 → n ≤ 6 → b ≡ bit_of on → l ≡ w % 2 ^ n
    → bit_or ((bit_or ((w / 2 ^ (n + 1) * 2 ^ 1) % 2 ^ 32) b * 2 ^ n) % 2 ^ 32) l ≡ replaced w n on
bits_joined w n on {b} {l} hw hn eb el =
    let q = w / 2 ^ (n + 1) in
    let hq : q ≤ w = div-le_self w (2 ^ (n + 1)) in
    let hb : b < 2 ^ 1 = rw eb (bit_small on) in
    let e1 : (q * 2 ^ 1) % 2 ^ 32 ≡ q * 2 ^ 1 = mod-eq_of_lt (omega arith) in
    let e2 : bit_or ((q * 2 ^ 1) % 2 ^ 32) b ≡ q * 2 + b = rw e1 (or_shifted q 1 b hb) in
    let hp : 2 ^ n ≤ 64 = pow_mono {i = n} {j = 6} hn in
    let hl : l < 2 ^ n = rw el (mod-lt w (pow_pos n)) in
    let hqb : q * 2 + b ≤ 257 = omega arith in
    let small : (q * 2 + b) * 2 ^ n < 2 ^ 32 = lt_of_le_of_lt (mul-le-mul hqb hp) (omega arith) in
    let e3 : ((q * 2 + b) * 2 ^ n) % 2 ^ 32 ≡ (q * 2 + b) * 2 ^ n = mod-eq_of_lt small in
    rw (e2, e3) (or_shifted (q * 2 + b) n l hl ∙ rw (eb, el))
