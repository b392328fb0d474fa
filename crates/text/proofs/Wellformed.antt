-- Well-formed UTF-8 by the table of the Unicode Standard, and as the library has it: the bytes of characters. Assumes nothing.
use Rattle.std.proofs.Common.{◌≡◌, refl, sym, ap, subst, ◌∙◌, ◌⊎◌, inl, inr, arith}
use mathlib.Core.List.{List, [], ◌∷◌, ◌++◌}
use Rattle.std.specs.Prelude.{Option, Some, None, if◌then◌else◌}
use mathlib.Core.Bool.{Bool, true, false, and-false}
use Prim.Native.Nat.{ℕ, zero, suc, ◌+◌, ◌-◌, ◌*◌, ◌/◌, ◌≤◌, ◌<◌}
use lib.Dec.{leb, eqb}
use lib.ListN.{length}
use lib.Utf8.{scalar, scalars, next, encode, encodes, scalar_cases, low_scalar}
use Rattle.std.proofs.lemmas.Str.{IsUtf8-nil}
use borrow.Author.Tests.{eqb-true, ne_eqb, leb-true, le-leb, lt-leb}
use Rattle.std.specs.Str.{IsUtf8}
use Rattle.std.specs.Prelude.{Result, Ok, Err, MatchResult, is_ok}
use Rattle.definition.specs.Base.{when, within}
use Rattle.definition.specs.Text.{Text, tail_byte, following, utf8_after, is_utf8}
use Rattle.laws.specs.Bools.{and_left, and_right}
use Rattle.text.specs.Parts.{le_or_lt}

abbrev Ranges : Type 0
Ranges = List (ℕ × ℕ)

-- ---- ranges

inside : (lo hi n : ℕ) → lo ≤ n → n ≤ hi → within lo hi n ≡ true
inside lo hi n l h = rw (le-leb lo n l, le-leb n hi h)

over : (lo hi n : ℕ) → hi < n → within lo hi n ≡ false
over lo hi n h = rw (lt-leb n hi h) (and-false (leb lo n))

low : (lo hi n : ℕ) → within lo hi n ≡ true → lo ≤ n
low lo hi n e = leb-true lo n (and_left (leb lo n) (leb n hi) e)

high : (lo hi n : ℕ) → within lo hi n ≡ true → n ≤ hi
high lo hi n e = leb-true n hi (and_right (leb lo n) (leb n hi) e)

-- ---- the rows of the table

abbrev pair : Ranges
pair = tail_byte ∷ []

abbrev triple : ℕ × ℕ → Ranges
triple r = r ∷ tail_byte ∷ []

abbrev quadruple : ℕ × ℕ → Ranges
quadruple r = r ∷ tail_byte ∷ tail_byte ∷ []

choose : {A : Type 0} (P : A → Type 0) (x : Bool) {a b : A} → (x ≡ true → P a) → (x ≡ false → P b) → P (if x then a else b)
choose P true f g = f refl
choose P false f g = g refl

by_row : (b : ℕ) (P : Option Ranges → Type 0) → (b ≤ 0x7F → P (Some [])) → (0xC2 ≤ b → b ≤ 0xDF → P (Some pair))
    → (b ≡ 0xE0 → P (Some (triple (0xA0, 0xBF)))) → (0xE1 ≤ b → b ≤ 0xEC → P (Some (triple tail_byte))) → (b ≡ 0xED → P (Some (triple (0x80, 0x9F))))
    → (0xEE ≤ b → b ≤ 0xEF → P (Some (triple tail_byte))) → (b ≡ 0xF0 → P (Some (quadruple (0x90, 0xBF))))
    → (0xF1 ≤ b → b ≤ 0xF3 → P (Some (quadruple tail_byte))) → (b ≡ 0xF4 → P (Some (quadruple (0x80, 0x8F)))) → P None → P (following b)
unfolding following
by_row b P p1 p2 e0 e1 ed ee f0 f1 f4 none =
    choose P (within 0x00 0x7F b) (λ t. p1 (high 0x00 0x7F b t))
    (λ n1. choose P (within 0xC2 0xDF b) (λ t. p2 (low 0xC2 0xDF b t) (high 0xC2 0xDF b t))
    (λ n2. choose P (eqb b 0xE0) (λ t. e0 (eqb-true b 0xE0 t))
    (λ n3. choose P (within 0xE1 0xEC b) (λ t. e1 (low 0xE1 0xEC b t) (high 0xE1 0xEC b t))
    (λ n4. choose P (eqb b 0xED) (λ t. ed (eqb-true b 0xED t))
    (λ n5. choose P (within 0xEE 0xEF b) (λ t. ee (low 0xEE 0xEF b t) (high 0xEE 0xEF b t))
    (λ n6. choose P (eqb b 0xF0) (λ t. f0 (eqb-true b 0xF0 t))
    (λ n7. choose P (within 0xF1 0xF3 b) (λ t. f1 (low 0xF1 0xF3 b t) (high 0xF1 0xF3 b t))
    (λ n8. choose P (eqb b 0xF4) (λ t. f4 (eqb-true b 0xF4 t)) (λ n9. none)))))))))

two_row : (b : ℕ) → 0xC2 ≤ b → b ≤ 0xDF → following b ≡ Some pair
unfolding following
two_row b l h = simp (over 0x00 0x7F b (omega arith), inside 0xC2 0xDF b l h)

three_row : (b : ℕ) → 0xE1 ≤ b → b ≤ 0xEC → following b ≡ Some (triple tail_byte)
unfolding following
three_row b l h = simp (over 0x00 0x7F b (omega arith), over 0xC2 0xDF b (omega arith), ne_eqb b 0xE0 (λ e. omega arith), inside 0xE1 0xEC b l h)

last_row : (b : ℕ) → 0xEE ≤ b → b ≤ 0xEF → following b ≡ Some (triple tail_byte)
unfolding following
last_row b l h =
    simp (
      over 0x00 0x7F b (omega arith),
      over 0xC2 0xDF b (omega arith),
      ne_eqb b 0xE0 (λ e. omega arith),
      over 0xE1 0xEC b (omega arith),
      ne_eqb b 0xED (λ e. omega arith),
      inside 0xEE 0xEF b l h,
    )

four_row : (b : ℕ) → 0xF1 ≤ b → b ≤ 0xF3 → following b ≡ Some (quadruple tail_byte)
unfolding following
four_row b l h =
    simp (
      over 0x00 0x7F b (omega arith),
      over 0xC2 0xDF b (omega arith),
      ne_eqb b 0xE0 (λ e. omega arith),
      over 0xE1 0xEC b (omega arith),
      ne_eqb b 0xED (λ e. omega arith),
      over 0xEE 0xEF b (omega arith),
      ne_eqb b 0xF0 (λ e. omega arith),
      inside 0xF1 0xF3 b l h,
    )

-- ---- the bytes of a character, by its size

encode2 : (c : ℕ) → 128 ≤ c → c < 2048 → encode c ≡ (192 + c / 64) ∷ next c ∷ []
unfolding encode
encode2 c l h = rw (lt-leb (suc c) 128 (omega arith), le-leb (suc c) 2048 (omega arith))

encode3 : (c : ℕ) → 2048 ≤ c → c < 65536 → encode c ≡ (224 + c / 4096) ∷ next (c / 64) ∷ next c ∷ []
unfolding encode
encode3 c l h = rw (lt-leb (suc c) 128 (omega arith), lt-leb (suc c) 2048 (omega arith), le-leb (suc c) 65536 (omega arith))

encode4 : (c : ℕ) → 65536 ≤ c → encode c ≡ (240 + c / 262144) ∷ next (c / 4096) ∷ next (c / 64) ∷ next c ∷ []
unfolding encode
encode4 c l = rw (lt-leb (suc c) 128 (omega arith), lt-leb (suc c) 2048 (omega arith), lt-leb (suc c) 65536 (omega arith))

encode1 : (c : ℕ) → c < 128 → encode c ≡ c ∷ []
unfolding encode
encode1 c h = rw (le-leb (suc c) 128 (omega arith))

-- ---- a character's bytes stand in the table

in_tail : (c : ℕ) → within 0x80 0xBF (next c) ≡ true
in_tail c = inside 0x80 0xBF (next c) (omega arith) (omega arith)

module _ (b : ℕ) (s : Text) where
  after_row : {o : Option Ranges} → following b ≡ o → is_utf8 (b ∷ s) ≡ utf8_after s o
  unfolding is_utf8 utf8_after
  after_row e = ap (utf8_after s) e

go_on : (r : ℕ × ℕ) (rs : Ranges) (x : ℕ) (s : Text) → within r.0 r.1 x ≡ true → utf8_after (x ∷ s) (Some (r ∷ rs)) ≡ utf8_after s (Some rs)
unfolding utf8_after
go_on r rs x s e = ap (λ (b : Bool). utf8_after s (when b rs)) e

all_read : (s : Text) → utf8_after s (Some []) ≡ is_utf8 s
unfolding is_utf8
all_read s = refl

module _ (s : Text) where
  read2 : (b : ℕ) (x : ℕ) → following b ≡ Some pair → within 0x80 0xBF x ≡ true → is_utf8 (b ∷ x ∷ s) ≡ is_utf8 s
  read2 b x e i = after_row b (x ∷ s) e ∙ go_on tail_byte [] x s i ∙ all_read s

  read3 : (b : ℕ) (r : ℕ × ℕ) (x y : ℕ) → following b ≡ Some (triple r) → within r.0 r.1 x ≡ true → within 0x80 0xBF y ≡ true → is_utf8 (b ∷ x ∷ y ∷ s) ≡ is_utf8 s
  read3 b r x y e i j = after_row b (x ∷ y ∷ s) e ∙ go_on r (tail_byte ∷ []) x (y ∷ s) i ∙ go_on tail_byte [] y s j ∙ all_read s

  read4 : (b : ℕ) (r : ℕ × ℕ) (x y z : ℕ) → following b ≡ Some (quadruple r) → within r.0 r.1 x ≡ true → within 0x80 0xBF y ≡ true → within 0x80 0xBF z ≡ true → is_utf8 (b ∷ x ∷ y ∷ z ∷ s) ≡ is_utf8 s
  read4 b r x y z e i j k =
      after_row b (x ∷ y ∷ z ∷ s) e ∙ go_on r (tail_byte ∷ tail_byte ∷ []) x (y ∷ z ∷ s) i ∙ go_on tail_byte (tail_byte ∷ []) y (z ∷ s) j ∙ go_on tail_byte [] z s k ∙ all_read s

  module _ (c : ℕ) where
    begins1 : c < 128 → is_utf8 (encode c ++ s) ≡ is_utf8 s
    unfolding following
    begins1 h = rw (encode1 c h) (after_row c s (simp (inside 0x00 0x7F c (omega arith) (omega arith))) ∙ all_read s)

    begins2 : 128 ≤ c → c < 2048 → is_utf8 (encode c ++ s) ≡ is_utf8 s
    begins2 l h = rw (encode2 c l h) (read2 (192 + c / 64) (next c) (two_row (192 + c / 64) (omega arith) (omega arith)) (in_tail c))

    begins3 : 2048 ≤ c → c < 65536 → (c < 55296) ⊎ (57344 ≤ c) → is_utf8 (encode c ++ s) ≡ is_utf8 s
    unfolding following
    begins3 l h k = rw (encode3 c l h) (rows k (le_or_lt 0x1000 c) (le_or_lt 0xD000 c))
      where
        b : ℕ
        b = 224 + c / 4096

        x : ℕ
        x = next (c / 64)

        rows : (c < 55296) ⊎ (57344 ≤ c) → (0x1000 ≤ c) ⊎ (c < 0x1000) → (0xD000 ≤ c) ⊎ (c < 0xD000) → is_utf8 (b ∷ x ∷ next c ∷ s) ≡ is_utf8 s
        rows k (inr p) q = let e : b ≡ 0xE0 = omega arith in read3 b (0xA0, 0xBF) x (next c) (ap following e) (inside 0xA0 0xBF x (omega arith) (omega arith)) (in_tail c)
        rows k (inl p) (inr q) = read3 b tail_byte x (next c) (three_row b (omega arith) (omega arith)) (in_tail (c / 64)) (in_tail c)
        rows (inl k) (inl p) (inl q) = let e : b ≡ 0xED = omega arith in read3 b (0x80, 0x9F) x (next c) (ap following e) (inside 0x80 0x9F x (omega arith) (omega arith)) (in_tail c)
        rows (inr k) (inl p) (inl q) = read3 b tail_byte x (next c) (last_row b (omega arith) (omega arith)) (in_tail (c / 64)) (in_tail c)

    begins4 : 65536 ≤ c → c < 1114112 → is_utf8 (encode c ++ s) ≡ is_utf8 s
    unfolding following
    begins4 l h = rw (encode4 c l) (rows (le_or_lt 0x40000 c) (le_or_lt 0x100000 c))
      where
        b : ℕ
        b = 240 + c / 262144

        x : ℕ
        x = next (c / 4096)

        rows : (0x40000 ≤ c) ⊎ (c < 0x40000) → (0x100000 ≤ c) ⊎ (c < 0x100000) → is_utf8 (b ∷ x ∷ next (c / 64) ∷ next c ∷ s) ≡ is_utf8 s
        rows (inr p) q = let e : b ≡ 0xF0 = omega arith in read4 b (0x90, 0xBF) x (next (c / 64)) (next c) (ap following e) (inside 0x90 0xBF x (omega arith) (omega arith)) (in_tail (c / 64)) (in_tail c)
        rows (inl p) (inr q) = read4 b tail_byte x (next (c / 64)) (next c) (four_row b (omega arith) (omega arith)) (in_tail (c / 4096)) (in_tail (c / 64)) (in_tail c)
        rows (inl p) (inl q) = let e : b ≡ 0xF4 = omega arith in read4 b (0x80, 0x8F) x (next (c / 64)) (next c) (ap following e) (inside 0x80 0x8F x (omega arith) (omega arith)) (in_tail (c / 64)) (in_tail c)

    char_on : scalar c ≡ true → is_utf8 (encode c ++ s) ≡ is_utf8 s
    char_on e = sizes (scalar_cases c e) (le_or_lt 128 c) (le_or_lt 2048 c) (le_or_lt 65536 c)
      where
        sizes : (c < 55296) ⊎ ((57344 ≤ c) × (c < 1114112)) → (128 ≤ c) ⊎ (c < 128) → (2048 ≤ c) ⊎ (c < 2048) → (65536 ≤ c) ⊎ (c < 65536) → is_utf8 (encode c ++ s) ≡ is_utf8 s
        sizes k (inr p) q r = begins1 p
        sizes k (inl p) (inr q) r = begins2 p q
        sizes (inl k) (inl p) (inl q) (inr r) = begins3 q r (inl k)
        sizes (inr k) (inl p) (inl q) (inr r) = begins3 q r (inr k.0)
        sizes (inl k) (inl p) (inl q) (inl r) = absurd (omega arith)
        sizes (inr k) (inl p) (inl q) (inl r) = begins4 r k.1

table_takes : (s : Text) → IsUtf8 s → is_utf8 s ≡ true
unfolding is_utf8 utf8_after
table_takes s u = subst (λ z. is_utf8 z ≡ true) u.1.1 (each u.0 u.1.0)
  where
    each : (cs : List ℕ) → scalars cs ≡ true → is_utf8 (encodes cs) ≡ true
    each [] e = refl
    each (c ∷ cs) e = char_on (encodes cs) c (and_left (scalar c) (scalars cs) e) ∙ each cs (and_right (scalar c) (scalars cs) e)

-- ---- what the table takes is characters

record Spelled (bs : Text) : Type 0 where
  pub c : ℕ
  pub is_scalar : scalar c ≡ true
  pub spells : encode c ≡ bs

put : (bs t : Text) → Spelled bs → IsUtf8 t → IsUtf8 (bs ++ t)
put bs t p u = (p.c ∷ u.0, (rw p.is_scalar u.1.0, ap (λ z. z ++ encodes u.0) p.spells ∙ ap (λ z. bs ++ z) u.1.1))

high_scalar : (c : ℕ) → 57344 ≤ c → c < 1114112 → scalar c ≡ true
high_scalar c l h = rw (lt-leb (suc c) 55296 (omega arith), le-leb 57344 c l, le-leb (suc c) 1114112 (omega arith))

spelled1 : (b : ℕ) → b ≤ 0x7F → Spelled (b ∷ [])
spelled1 b h = record { c = b; is_scalar = low_scalar b (omega arith); spells = encode1 b (omega arith) }

spelled2 : (b x : ℕ) → 0xC2 ≤ b → b ≤ 0xDF → within 0x80 0xBF x ≡ true → Spelled (b ∷ x ∷ [])
spelled2 b x l h i =
    let lx = low 0x80 0xBF x i in
    let hx = high 0x80 0xBF x i in
    let k = (b - 192) * 64 + (x - 128) in
    let eb : 192 + k / 64 ≡ b = omega arith in
    let ex : next k ≡ x = omega arith in
    record { c = k; is_scalar = low_scalar k (omega arith); spells = encode2 k (omega arith) (omega arith) ∙ rw (eb, ex) }

abbrev code3 : ℕ → ℕ → ℕ → ℕ
code3 b x y = (b - 224) * 4096 + (x - 128) * 64 + (y - 128)

module _ (b x y : ℕ) (lb : 0xE0 ≤ b) (hb : b ≤ 0xEF) (i : within 0x80 0xBF x ≡ true) (j : within 0x80 0xBF y ≡ true) where
  spelled3 : 2048 ≤ code3 b x y → scalar (code3 b x y) ≡ true → Spelled (b ∷ x ∷ y ∷ [])
  spelled3 l e =
      let lx = low 0x80 0xBF x i in
      let hx = high 0x80 0xBF x i in
      let ly = low 0x80 0xBF y j in
      let hy = high 0x80 0xBF y j in
      let k = code3 b x y in
      let eb : 224 + k / 4096 ≡ b = omega arith in
      let ex : next (k / 64) ≡ x = omega arith in
      let ey : next k ≡ y = omega arith in
      record { c = k; is_scalar = e; spells = encode3 k l (omega arith) ∙ rw (eb, ex, ey) }

abbrev code4 : ℕ → ℕ → ℕ → ℕ → ℕ
code4 b x y z = (b - 240) * 262144 + (x - 128) * 4096 + (y - 128) * 64 + (z - 128)

module _ (b x y z : ℕ) (lb : 0xF0 ≤ b) (hb : b ≤ 0xF4) (i : within 0x80 0xBF x ≡ true) (j : within 0x80 0xBF y ≡ true) (k : within 0x80 0xBF z ≡ true) where
  spelled4 : 65536 ≤ code4 b x y z → code4 b x y z < 1114112 → Spelled (b ∷ x ∷ y ∷ z ∷ [])
  spelled4 l h =
      let lx = low 0x80 0xBF x i in
      let hx = high 0x80 0xBF x i in
      let ly = low 0x80 0xBF y j in
      let hy = high 0x80 0xBF y j in
      let lz = low 0x80 0xBF z k in
      let hz = high 0x80 0xBF z k in
      let q = code4 b x y z in
      let eb : 240 + q / 262144 ≡ b = omega arith in
      let ex : next (q / 4096) ≡ x = omega arith in
      let ey : next (q / 64) ≡ y = omega arith in
      let ez : next q ≡ z = omega arith in
      record { c = q; is_scalar = high_scalar q (omega arith) h; spells = encode4 q l ∙ rw (eb, ex, ey, ez) }

nothing : (s : Text) → utf8_after s None ≡ false
unfolding utf8_after
nothing [] = refl
nothing (x ∷ s) = refl

absent : {A : Type 0} (s : Text) → utf8_after s None ≡ true → A
absent s e = let q = nothing s in let z : ◌≡◌ {A = ℕ} 0 1 = cc in absurd (omega arith)

record Took (r : ℕ × ℕ) (rs : Ranges) (s : Text) : Type 0 where
  pub x : ℕ
  pub t : Text
  pub is : s ≡ x ∷ t
  pub fits : within r.0 r.1 x ≡ true
  pub rest : utf8_after t (Some rs) ≡ true

took : (r : ℕ × ℕ) (rs : Ranges) (s : Text) → utf8_after s (Some (r ∷ rs)) ≡ true → Took r rs s
unfolding utf8_after
took r rs [] e = let z : ◌≡◌ {A = ℕ} 0 1 = cc in absurd (omega arith)
took r rs (x ∷ t) e = go (within r.0 r.1 x) refl e
  where
    go : (b : Bool) → within r.0 r.1 x ≡ b → utf8_after t (when b rs) ≡ true → Took r rs (x ∷ t)
    go true q h = record { x = x; t = t; is = refl; fits = q; rest = h }
    go false q h = absent t h

module _ (n : ℕ) (again : (t : Text) → length t ≤ n → is_utf8 t ≡ true → IsUtf8 t) (b : ℕ) (s : Text) (few : length s ≤ n) where
  row1 : b ≤ 0x7F → utf8_after s (Some []) ≡ true → IsUtf8 (b ∷ s)
  unfolding is_utf8
  row1 h e = put (b ∷ []) s (spelled1 b h) (again s few e)

  row2 : 0xC2 ≤ b → b ≤ 0xDF → utf8_after s (Some pair) ≡ true → IsUtf8 (b ∷ s)
  unfolding is_utf8
  row2 l h e =
      let p = took tail_byte [] s e in
      let m : length p.t ≤ n = omega (arith, ap length p.is) in
      subst (λ z. IsUtf8 (b ∷ z)) (sym p.is) (put (b ∷ p.x ∷ []) p.t (spelled2 b p.x l h p.fits) (again p.t m p.rest))

  row3 : (r : ℕ × ℕ) → ((x y : ℕ) → within r.0 r.1 x ≡ true → within 0x80 0xBF y ≡ true → Spelled (b ∷ x ∷ y ∷ [])) → utf8_after s (Some (triple r)) ≡ true → IsUtf8 (b ∷ s)
  unfolding is_utf8
  row3 r f e =
      let p = took r pair s e in
      let q = took tail_byte [] p.t p.rest in
      let m : length q.t ≤ n = omega (arith, ap length p.is, ap length q.is) in
      subst (λ z. IsUtf8 (b ∷ z)) (sym (p.is ∙ ap (λ z. p.x ∷ z) q.is)) (put (b ∷ p.x ∷ q.x ∷ []) q.t (f p.x q.x p.fits q.fits) (again q.t m q.rest))

  row4 : (r : ℕ × ℕ) → ((x y z : ℕ) → within r.0 r.1 x ≡ true → within 0x80 0xBF y ≡ true → within 0x80 0xBF z ≡ true → Spelled (b ∷ x ∷ y ∷ z ∷ [])) → utf8_after s (Some (quadruple r)) ≡ true → IsUtf8 (b ∷ s)
  unfolding is_utf8
  row4 r f e =
      let p = took r (tail_byte ∷ tail_byte ∷ []) s e in
      let q = took tail_byte pair p.t p.rest in
      let v = took tail_byte [] q.t q.rest in
      let m : length v.t ≤ n = omega (arith, ap length p.is, ap length q.is, ap length v.is) in
      subst (λ z. IsUtf8 (b ∷ z)) (sym (p.is ∙ ap (λ z. p.x ∷ z) (q.is ∙ ap (λ z. q.x ∷ z) v.is)))
      (put (b ∷ p.x ∷ q.x ∷ v.x ∷ []) v.t (f p.x q.x v.x p.fits q.fits v.fits) (again v.t m v.rest))

-- a range within the tail bytes
within_tail : (lo hi x : ℕ) → 0x80 ≤ lo → hi ≤ 0xBF → within lo hi x ≡ true → within 0x80 0xBF x ≡ true
within_tail lo hi x l h e = inside 0x80 0xBF x (omega (arith, low lo hi x e)) (omega (arith, high lo hi x e))

characters : (n : ℕ) (s : Text) → length s ≤ n → is_utf8 s ≡ true → IsUtf8 s
unfolding is_utf8 utf8_after
characters n [] h e = IsUtf8-nil
characters zero (b ∷ s) h e = absurd (omega arith)
characters (suc n) (b ∷ s) h e =
    let few : length s ≤ n = omega arith in
    let again = characters n in
    by_row b (λ o. utf8_after s o ≡ true → IsUtf8 (b ∷ s))
    (row1 n again b s few)
    (row2 n again b s few)
    (λ q. row3 n again b s few (0xA0, 0xBF) (λ x y i j. spelled3 b x y (omega arith) (omega arith) (within_tail 0xA0 0xBF x (omega arith) (omega arith) i) j (omega (arith, low 0xA0 0xBF x i)) (low_scalar (code3 b x y) (omega (arith, high 0xA0 0xBF x i, high 0x80 0xBF y j)))))
    (λ l h. row3 n again b s few tail_byte (λ x y i j. spelled3 b x y (omega arith) (omega arith) i j (omega arith) (low_scalar (code3 b x y) (omega (arith, high 0x80 0xBF x i, high 0x80 0xBF y j)))))
    (λ q. row3 n again b s few (0x80, 0x9F) (λ x y i j. spelled3 b x y (omega arith) (omega arith) (within_tail 0x80 0x9F x (omega arith) (omega arith) i) j (omega arith) (low_scalar (code3 b x y) (omega (arith, high 0x80 0x9F x i, high 0x80 0xBF y j)))))
    (λ l h. row3 n again b s few tail_byte (λ x y i j. spelled3 b x y (omega arith) (omega arith) i j (omega arith) (high_scalar (code3 b x y) (omega arith) (omega (arith, high 0x80 0xBF x i, high 0x80 0xBF y j)))))
    (λ q. row4 n again b s few (0x90, 0xBF) (λ x y z i j k. spelled4 b x y z (omega arith) (omega arith) (within_tail 0x90 0xBF x (omega arith) (omega arith) i) j k (omega (arith, low 0x90 0xBF x i)) (omega (arith, high 0x90 0xBF x i, high 0x80 0xBF y j, high 0x80 0xBF z k))))
    (λ l h. row4 n again b s few tail_byte (λ x y z i j k. spelled4 b x y z (omega arith) (omega arith) i j k (omega arith) (omega (arith, high 0x80 0xBF x i, high 0x80 0xBF y j, high 0x80 0xBF z k))))
    (λ q. row4 n again b s few (0x80, 0x8F) (λ x y z i j k. spelled4 b x y z (omega arith) (omega arith) (within_tail 0x80 0x8F x (omega arith) (omega arith) i) j k (omega arith) (omega (arith, high 0x80 0x8F x i, high 0x80 0xBF y j, high 0x80 0xBF z k))))
    (absent s)
    e

table_leaves : (s : Text) → (IsUtf8 s → ⊥) → is_utf8 s ≡ false
table_leaves s f = go (is_utf8 s) refl
  where
    go : (x : Bool) → is_utf8 s ≡ x → x ≡ false
    go true e = absurd (f (characters (length s) s (omega arith) e))
    go false e = refl

-- an answer of the library's test
pub tested : {A E : Type 0} (P : A → Type 0) (Q : E → Type 0) (s : Text) (r : Result A E) → MatchResult r (λ x. P x × IsUtf8 s) (λ e. ¬ (IsUtf8 s) × Q e) → is_ok r ≡ is_utf8 s
tested P Q s (Ok x) h = sym (table_takes s h.1)
tested P Q s (Err e) h = sym (table_leaves s h.0)
