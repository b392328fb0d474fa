-- Each way to make a format keeps two promises: what is put is got back, and what is got is what was put, bit for bit. Assumes nothing.
use Rattle.std.specs.Prelude.{if◌then◌else◌, ◌≡◌, refl, Bool, true, false, List, [], ◌∷◌, ◌++◌, ℕ, zero, suc, ◌+◌, ◌*◌, ◌%◌, ◌^◌, ◌≤◌, ◌<◌, leb, ltb, eqb, length, take, drop, replicate}
use Rattle.std.proofs.Common.{sym, ap, ◌∙◌, subst, true≢false, append_assoc, add-zero, add_assoc, arith, leb-true, ltb-true, ltb-false, le-leb, le-ltb, ne_eqb, length-append, take-append-drop, take_at, drop_at}
use Rattle.std.proofs.Math.Bool.{and-false, and-eq-true_iff}
use Rattle.std.specs.Prelude.{Option, Some, None}
use Rattle.laws.specs.Options.{Some-injective}
use Rattle.std.proofs.lemmas.Bool.{lt-leb}
use Rattle.std.proofs.lemmas.List.{length-replicate}
use Rattle.definition.specs.Base.{◌>>=◌, when, given, same, within}
use Rattle.definition.specs.Bits.{Bits, enc, dec, bits_of, bytes_up_to, gap, pad}
use Rattle.definition.specs.Text.{Text, tail_byte, following, utf8_after, is_utf8}
use Rattle.definition.specs.Format.{Format, field, ◌⊗◌, via, put_given, get_given, depending, put_all, get_all, times, get_pad, whole, count, count_width, text, rises, list_of}
use Rattle.definition.specs.Pack.{Counts, project, calendar, activity, link, resource, assignment, expense, body}
use Rattle.laws.specs.Options.{never, some_is, when_is}
use Rattle.laws.specs.Same.{same_refl, same_eq}
use Rattle.laws.specs.Each.{Each, empty, next, each_append, each_back, each_replicate}
use Rattle.laws.specs.Bits.{Binary, Bytes, length_enc, enc_binary, dec_enc_lt, take_lt, enc_take, bits_binary, length_bits, length_bytes, bytes_bits, bits_bytes}

-- ---- the promises

-- what came out is this
pub got : {A : Type 0} {x y : A} (P : A → Type 0) → Some x ≡ Some y → P x → P y
got {x = x} {y = y} P h p = subst P (Some-injective x y h) p

-- bits that stand behind n others end at a byte
abbrev pub Ends : ℕ → Bits → Type 0
Ends n l = (n + length l) % 8 ≡ 0

-- what follows s ends at a byte too, behind m bits, if m is as far from a byte as s ends
ends_after : (n m : ℕ) (s t : Bits) → m % 8 ≡ (n + length s) % 8 → Ends n (s ++ t) → Ends m t
ends_after n m s t h e = omega (arith, simp length-append at e)

joined : (l s u t v : Bits) → l ≡ s ++ u → u ≡ t ++ v → l ≡ s ++ t ++ v
joined l s u t v p q = p ∙ ap (λ (r : Bits). s ++ r) q ∙ sym (append_assoc s t v)

-- the bits begin with those of the value, and the value fits
abbrev pub Begins : {A : Type 0} → Format A → (A → Type 0) → ℕ → Bits → A × Bits → Type 0
Begins f Fits n l x = (l ≡ f.put n x.0 ++ x.1) × Fits x.0

-- binary: bits are put. back: what fits is got back. exact: what is got is what was put, and fits
pub record Good {A : Type 0} (f : Format A) (Fits : A → Type 0) : Type 0 where
  pub binary : (n : ℕ) (a : A) → Binary (f.put n a)
  pub back : (n : ℕ) (a : A) (rest : Bits) → Fits a → Ends n (f.put n a ++ rest) → f.get (f.put n a ++ rest) ≡ Some (a, rest)
  pub exact : (n : ℕ) (l : Bits) (x : A × Bits) → Binary l → Ends n l → f.get l ≡ Some x → Begins f Fits n l x

-- the same promises in other words
pub regard : {A : Type 0} {f : Format A} {F G : A → Type 0} → ((a : A) → F a → G a) → ((a : A) → G a → F a) → Good f F → Good f G
regard p q g = record {
  binary = g.binary;
  back = λ n a rest h. g.back n a rest (q a h);
  exact = λ n l x b e h. let r = g.exact n l x b e h in (r.0, p x.0 r.1);
}

-- ---- w bits

pub good_field : (w : ℕ) → Good (field w) (λ v. v < 2 ^ w)
unfolding field
good_field w = record {
  binary = λ n v. enc_binary w v;
  back = λ n v rest h e.
      let k : w ≤ length (enc w v ++ rest) = rw (length-append, length_enc) (omega arith) in
      rw (le-leb w (length (enc w v ++ rest)) k, take_at (enc w v) rest w (length_enc w v), drop_at (enc w v) rest w (length_enc w v), dec_enc_lt w v h);
  exact = λ n l x b e h.
      let r = when_is (leb w (length l)) (dec (take w l), drop w l) x h in
      let k = leb-true w (length l) r.0 in
      subst (Begins (field w) (λ v. v < 2 ^ w) n l) r.1 (sym (rw (enc_take w b k) (take-append-drop w l)), take_lt w b k);
}

-- ---- a part that says how the rest is read

-- f puts what `key` says of the value, and then `g` of that puts the value, as if it stood behind `at` bits
unfoldable pub lead : {A B : Type 0} → Format A → (B → A) → (ℕ → A → ℕ) → (A → Format B) → Format B
lead f key at g = record {
  put = λ n b. f.put n (key b) ++ (g (key b)).put (at n (key b)) b;
  get = λ l. f.get l >>= λ x. (g x.0).get x.1;
}

pub good_lead : {A B : Type 0} {f : Format A} (key : B → A) (at : ℕ → A → ℕ) {g : A → Format B} {F : A → Type 0} {G : A → B → Type 0}
    → ((n : ℕ) (a : A) → at n a % 8 ≡ (n + length (f.put n a)) % 8) → ((a : A) (b : B) → G a b → key b ≡ a) → Good f F → ((a : A) → Good (g a) (G a))
    → Good (lead f key at g) (λ b. F (key b) × G (key b) b)
unfolding lead
good_lead {f = f} key at {g = g} {F = F} {G = G} place says gf gg = record {
  binary = λ n b. each_append (gf.binary n (key b)) ((gg (key b)).binary (at n (key b)) b);
  back = λ n b rest h e.
      let s = f.put n (key b) in
      let t = (g (key b)).put (at n (key b)) b in
      let e' : Ends n (s ++ (t ++ rest)) = rw append_assoc at e in
      rw (append_assoc s t rest, gf.back n (key b) (t ++ rest) h.0 e')
      ((gg (key b)).back (at n (key b)) b rest h.1 (ends_after n (at n (key b)) s (t ++ rest) (place n (key b)) e'));
  exact = λ n l y b e h.
      let (x, p, q) = some_is (f.get l) (λ x. (g x.0).get x.1) y h in
      let s = f.put n x.0 in
      let m = at n x.0 in
      let (u, v) = gf.exact n l x b e p in
      let e' : Ends m x.1 = ends_after n m s x.1 (place n x.0) (subst (Ends n) u e) in
      let (w, z) = (gg x.0).exact m x.1 y (each_back s x.1 (subst Binary u b)) e' q in
      let t = (g x.0).put m y.0 in
      rw (says x.0 y.0 z) (joined l s x.1 t y.1 u w, (v, z));
}

-- behind a known value, another
keyed : {A B : Type 0} → A → Format B → Format (A × B)
keyed a g = record { put = λ n p. g.put n p.1; get = λ l. g.get l >>= λ y. Some ((a, y.0), y.1) }

good_keyed : {A B : Type 0} (a : A) {g : Format B} {G : B → Type 0} → Good g G → Good (keyed a g) (λ p. (p.0 ≡ a) × G p.1)
unfolding keyed
good_keyed {A} {B} a {g} {G} gg = record {
  binary = λ n p. gg.binary n p.1;
  back = λ n p rest h e. rw (gg.back n p.1 rest h.1 e) (ap (λ (x : A). Some ((x, p.1), rest)) (sym h.0));
  exact = λ n l z b e h.
      let (y, p, q) = some_is (g.get l) (λ y. Some ((a, y.0), y.1)) z h in
      let (u, v) = gg.exact n l y b e p in
      got (Begins (keyed a g) (λ p. (p.0 ≡ a) × G p.1) n l) q (u, (refl, v));
}

behind : {A : Type 0} → Format A → ℕ → A → ℕ
behind f n a = n + length (f.put n a)

-- one and then another that it names
chain : {A B : Type 0} → Format A → (A → Format B) → Format (A × B)
chain f g = lead f (λ p. p.0) (behind f) (λ a. keyed a (g a))

good_chain : {A B : Type 0} {f : Format A} {g : A → Format B} {F : A → Type 0} {G : A → B → Type 0}
    → Good f F → ((a : A) → Good (g a) (G a)) → Good (chain f g) (λ p. F p.0 × G p.0 p.1)
unfolding chain behind
good_chain {A} {B} {f} {g} {F} {G} gf gg =
    regard (λ p h. (h.0, h.1.1)) (λ p h. (h.0, (refl, h.1)))
    (good_lead (λ (p : A × B). p.0) (behind f) {G = λ a p. (p.0 ≡ a) × G a p.1} (λ n a. refl) (λ a p h. h.0) gf (λ a. good_keyed a (gg a)))

-- ---- one and then another

abbrev pub Both : {A B : Type 0} → (A → Type 0) → (B → Type 0) → A × B → Type 0
Both F G p = F p.0 × G p.1

infixr 20 ◌&◌
pub ◌&◌ : {A B : Type 0} {f : Format A} {g : Format B} {F : A → Type 0} {G : B → Type 0} → Good f F → Good g G → Good (f ⊗ g) (Both F G)
unfolding ◌⊗◌ chain lead keyed behind
gf & gg = good_chain gf (λ a. gg)

-- ---- a value, and another where a test of the first says so

-- what is given fits
abbrev pub IfGiven : {B : Type 0} → (B → Type 0) → Option B → Type 0
IfGiven G None = Unit {0}
IfGiven G (Some b) = G b

-- the first fits, and the other is given exactly where the test says, and fits
abbrev pub Depends : {A B : Type 0} → (A → Type 0) → (A → Bool) → (B → Type 0) → A × Option B → Type 0
Depends F test G p = F p.0 × ((given p.1 ≡ test p.0) × IfGiven G p.1)

perhaps : {B : Type 0} → Bool → Format B → Format (Option B)
perhaps t g = record { put = put_given g; get = get_given t g }

good_perhaps : {B : Type 0} (t : Bool) {g : Format B} {G : B → Type 0} → Good g G → Good (perhaps t g) (λ o. (given o ≡ t) × IfGiven G o)
unfolding perhaps
good_perhaps {B} t {g} {G} gg = record {
  binary = binary;
  back = back t;
  exact = exact t;
}
  where
    binary : (n : ℕ) (o : Option B) → Binary (put_given g n o)
    binary n None = empty
    binary n (Some b) = gg.binary n b

    back : (t : Bool) (n : ℕ) (o : Option B) (rest : Bits) → (given o ≡ t) × IfGiven G o → Ends n (put_given g n o ++ rest)
        → get_given t g (put_given g n o ++ rest) ≡ Some (o, rest)
    back true n None rest h e = absurd (true≢false (sym h.0))
    back false n None rest h e = refl
    back true n (Some b) rest h e = rw (gg.back n b rest h.1 e)
    back false n (Some b) rest h e = absurd (true≢false h.0)

    exact : (t : Bool) (n : ℕ) (l : Bits) (x : Option B × Bits) → Binary l → Ends n l → get_given t g l ≡ Some x
        → Begins (perhaps t g) (λ o. (given o ≡ t) × IfGiven G o) n l x
    exact false n l x b e h = got (Begins (perhaps false g) (λ o. (given o ≡ false) × IfGiven G o) n l) h (refl, (refl, tt))
    exact true n l x b e h =
        let (y, p, q) = some_is (g.get l) (λ y. Some (Some y.0, y.1)) x h in
        let (u, v) = gg.exact n l y b e p in
        got (Begins (perhaps true g) (λ o. (given o ≡ true) × IfGiven G o) n l) q (u, (refl, v))

pub good_depending : {A B : Type 0} {f : Format A} (test : A → Bool) {g : Format B} {F : A → Type 0} {G : B → Type 0}
    → Good f F → Good g G → Good (depending f test g) (Depends F test G)
unfolding depending chain lead keyed perhaps behind
good_depending test gf gg = good_chain gf (λ a. good_perhaps (test a) gg)

-- ---- values that stand for others

-- fits: what fits stands for what fits. there: it is found from that. back: what is found fits, and stands for what it was found from
pub record Stands {A B : Type 0} (to : A → Option B) (from : B → A) (F : A → Type 0) (G : B → Type 0) : Type 0 where
  pub fits : (b : B) → G b → F (from b)
  pub there : (b : B) → G b → to (from b) ≡ Some b
  pub back : (a : A) (b : B) → F a → to a ≡ Some b → (from b ≡ a) × G b

pub good_via : {A B : Type 0} {to : A → Option B} {from : B → A} {f : Format A} {F : A → Type 0} {G : B → Type 0}
    → Stands to from F G → Good f F → Good (via to from f) G
unfolding via
good_via {A} {to = to} {from = from} {f = f} {G = G} s g = record {
  binary = λ n b. g.binary n (from b);
  back = λ n b rest h e. rw (g.back n (from b) rest (s.fits b h) e, s.there b h);
  exact = λ n l z b e h.
      let (x, p, q) = some_is (f.get l) (λ x. to x.0 >>= λ b. Some (b, x.1)) z h in
      let (y, t, r) = some_is (to x.0) (λ b. Some (b, x.1)) z q in
      let (u, v) = g.exact n l x b e p in
      let (w, k) = s.back x.0 y v t in
      got (Begins (via to from f) G n l) r (u ∙ ap (λ (a : A). f.put n a ++ x.1) (sym w), k);
}

-- ---- so many, one after another

pub record Times {A : Type 0} (F : A → Type 0) (k : ℕ) (l : List A) : Type 0 where
  pub many : length l ≡ k
  pub each : Each F l

pub all_append : {A : Type 0} (f : Format A) (n : ℕ) (xs ys : List A) → put_all f n (xs ++ ys) ≡ put_all f n xs ++ put_all f (n + length (put_all f n xs)) ys
unfolding put_all
all_append f n [] ys = rw add-zero
all_append f n (x ∷ xs) ys = rw (all_append f (n + length (f.put n x)) xs ys, append_assoc, length-append, add_assoc)

all_binary : {A : Type 0} {f : Format A} {F : A → Type 0} → Good f F → (n : ℕ) (l : List A) → Binary (put_all f n l)
unfolding put_all
all_binary g n [] = empty
all_binary {f = f} g n (x ∷ l) = each_append (g.binary n x) (all_binary g (n + length (f.put n x)) l)

all_back : {A : Type 0} {f : Format A} {F : A → Type 0} → Good f F → (n : ℕ) {l : List A} (rest : Bits) → Each F l
    → Ends n (put_all f n l ++ rest) → get_all f (length l) (put_all f n l ++ rest) ≡ Some (l, rest)
unfolding put_all get_all
all_back g n rest empty e = refl
all_back {f = f} g n rest (next {x = x} {l = l} h hs) e =
    let s = f.put n x in
    let t = put_all f (n + length s) l in
    let e' : Ends n (s ++ (t ++ rest)) = rw append_assoc at e in
    rw (append_assoc s t rest, g.back n x (t ++ rest) h e', all_back g (n + length s) rest hs (ends_after n (n + length s) s (t ++ rest) refl e'))

all_more : {A : Type 0} (f : Format A) (F : A → Type 0) (k n : ℕ) (l : Bits) (x : A × Bits) (y z : List A × Bits) → Begins f F n l x
    → Begins (times k f) (Times F k) (n + length (f.put n x.0)) x.1 y → Some (x.0 ∷ y.0, y.1) ≡ Some z
    → Begins (times (suc k) f) (Times F (suc k)) n l z
unfolding times put_all
all_more f F k n l x y z (u, v) (w, a) t =
    let s = f.put n x.0 in
    let m = put_all f (n + length s) y.0 in
    got (Begins (times (suc k) f) (Times F (suc k)) n l) t
    (joined l s x.1 m y.1 u w, record { many = ap suc a.many; each = next v a.each })

all_exact : {A : Type 0} {f : Format A} {F : A → Type 0} → Good f F → (k n : ℕ) (l : Bits) (y : List A × Bits) → Binary l → Ends n l
    → get_all f k l ≡ Some y → Begins (times k f) (Times F k) n l y
unfolding times get_all put_all
all_exact {f = f} {F = F} g zero n l y b e h = got (Begins (times zero f) (Times F zero) n l) h (refl, record { many = refl; each = empty })
all_exact {f = f} {F = F} g (suc k) n l z b e h =
    let (x, p, q) = some_is (f.get l) (λ x. get_all f k x.1 >>= λ y. Some (x.0 ∷ y.0, y.1)) z h in
    let (y, r, t) = some_is (get_all f k x.1) (λ y. Some (x.0 ∷ y.0, y.1)) z q in
    let s = f.put n x.0 in
    let m = n + length s in
    let u = g.exact n l x b e p in
    let w = all_exact g k m x.1 y (each_back s x.1 (subst Binary u.0 b)) (ends_after n m s x.1 refl (subst (Ends n) u.0 e)) r in
    all_more f F k n l x y z u w t

pub good_times : {A : Type 0} (k : ℕ) {f : Format A} {F : A → Type 0} → Good f F → Good (times k f) (Times F k)
unfolding times
good_times k {f} g = record {
  binary = all_binary g;
  back = λ n l rest h e. rw (← h.many) (all_back g n rest h.each e);
  exact = all_exact g k;
}

-- ---- zero bits to a byte

-- zero bits, and the value that stands before them
padding : {A : Type 0} → A → Format A
padding a = record { put = λ n b. pad n; get = λ l. get_pad l >>= λ rest. Some (a, rest) }

pad_length : (n r : ℕ) → (n + (gap n + r)) % 8 ≡ 0 → (gap n + r) % 8 ≡ gap n
pad_length n r h = omega arith

pad_back : (n : ℕ) (rest : Bits) → Ends n (pad n ++ rest) → get_pad (pad n ++ rest) ≡ Some rest
unfolding get_pad
pad_back n rest e =
    let g : length (pad n) ≡ gap n = length-replicate (gap n) 0 in
    let k : length (pad n ++ rest) ≡ gap n + length rest = length-append (pad n) rest ∙ ap (λ (m : ℕ). m + length rest) g in
    let m : length (pad n ++ rest) % 8 ≡ gap n = rw k (pad_length n (length rest) (rw k at e)) in
    rw (m, take_at (pad n) rest (gap n) g, drop_at (pad n) rest (gap n) g, same_refl (pad n))

pad_exact : (n : ℕ) (l rest : Bits) → Ends n l → get_pad l ≡ Some rest → l ≡ pad n ++ rest
unfolding get_pad
pad_exact n l rest e h =
    let m = length l % 8 in
    let (p, q) = when_is (same (take m l) (replicate m 0)) (drop m l) rest h in
    let g : m ≡ gap n = omega arith in
    subst (λ (rest : Bits). l ≡ pad n ++ rest) q (rw (← g, ← same_eq (take m l) (replicate m 0) p) (sym (take-append-drop m l)))

good_padding : {A : Type 0} (a : A) → Good (padding a) (λ b. b ≡ a)
unfolding padding
good_padding {A} a = record {
  binary = λ n b. each_replicate (gap n) 0 (omega arith);
  back = λ n b rest h e. rw (pad_back n rest e) (ap (λ (x : A). Some (x, rest)) (sym h));
  exact = λ n l z b e h.
      let (rest, p, q) = some_is (get_pad l) (λ rest. Some (a, rest)) z h in
      got (Begins (padding a) (λ b. b ≡ a) n l) q (pad_exact n l rest e p, refl);
}

pub good_whole : {A : Type 0} {f : Format A} {F : A → Type 0} → Good f F → Good (whole f) F
unfolding whole lead padding behind
good_whole {A} {f} {F} g =
    regard (λ a h. h.0) (λ a h. (h, refl))
    (good_lead (λ (a : A). a) (behind f) {G = λ a b. b ≡ a} (λ n a. refl) (λ a b h. h) g good_padding)

-- ---- texts

-- UTF-8 has bytes below 256 only: the ranges of the bytes to come end there
data Low : Option (List (ℕ × ℕ)) → Type 0 where
  bare : Low None
  low : {rs : List (ℕ × ℕ)} → Each (λ r. r.1 < 256) rs → Low (Some rs)

low_if : (t : Bool) {o p : Option (List (ℕ × ℕ))} → Low o → Low p → Low (if t then o else p)
low_if true h k = h
low_if false h k = k

low_range : (a z : ℕ) {rs : List (ℕ × ℕ)} → z < 256 → Each (λ r. r.1 < 256) rs → Each (λ r. r.1 < 256) ((a, z) ∷ rs)
low_range a z k h = next {x = (a, z)} k h

low_tail : {rs : List (ℕ × ℕ)} → Each (λ r. r.1 < 256) rs → Each (λ r. r.1 < 256) (tail_byte ∷ rs)
low_tail h = low_range 0x80 0xBF (omega arith) h

low_following : (b : ℕ) → Low (following b)
unfolding following
low_following b =
    low_if (within 0x00 0x7F b) (low empty)
    (low_if (within 0xC2 0xDF b) (low (low_tail empty))
    (low_if (eqb b 0xE0) (low (low_range 0xA0 0xBF (omega arith) (low_tail empty)))
    (low_if (within 0xE1 0xEC b) (low (low_tail (low_tail empty)))
    (low_if (eqb b 0xED) (low (low_range 0x80 0x9F (omega arith) (low_tail empty)))
    (low_if (within 0xEE 0xEF b) (low (low_tail (low_tail empty)))
    (low_if (eqb b 0xF0) (low (low_range 0x90 0xBF (omega arith) (low_tail (low_tail empty))))
    (low_if (within 0xF1 0xF3 b) (low (low_tail (low_tail (low_tail empty))))
    (low_if (eqb b 0xF4) (low (low_range 0x80 0x8F (omega arith) (low_tail (low_tail empty)))) bare))))))))

high_following : (b : ℕ) → 256 ≤ b → following b ≡ None
unfolding following
high_following b h =
    let over : (c : ℕ) → c < 256 → leb b c ≡ false = λ c k. lt-leb b c (omega arith) in
    let other : (c : ℕ) → c < 256 → eqb b c ≡ false = λ c k. ne_eqb b c (λ e. omega arith) in
    simp (
      over 0x7F (omega arith),
      over 0xDF (omega arith),
      over 0xEC (omega arith),
      over 0xEF (omega arith),
      over 0xF3 (omega arith),
      other 0xE0 (omega arith),
      other 0xED (omega arith),
      other 0xF0 (omega arith),
      other 0xF4 (omega arith),
      and-false,
    )

utf8_none : (s : Text) → utf8_after s None ≡ false
unfolding utf8_after
utf8_none [] = refl
utf8_none (b ∷ s) = refl

utf8_after_lem : (s : Text) (o : Option (List (ℕ × ℕ))) → Low o → utf8_after s o ≡ true → Bytes s
unfolding utf8_after
utf8_after_lem [] o l h = empty
utf8_after_lem (b ∷ s) None l h = absurd (true≢false (sym h))
utf8_after_lem (b ∷ s) (Some []) l h = next (byte (ltb b 256) refl) (utf8_after_lem s (following b) (low_following b) h)
  where
    byte : (t : Bool) → ltb b 256 ≡ t → b < 256
    byte true e = ltb-true b 256 e
    byte false e = absurd (true≢false (sym h ∙ ap (utf8_after s) (high_following b (ltb-false b 256 e)) ∙ utf8_none s))
utf8_after_lem (b ∷ s) (Some ((a, z) ∷ rs)) (low (next k l)) h = go (within a z b) refl (utf8_after_lem s) h
  where
    go : (t : Bool) → within a z b ≡ t → ((o : Option (List (ℕ × ℕ))) → Low o → utf8_after s o ≡ true → Bytes s) → utf8_after s (when t rs) ≡ true → Bytes (b ∷ s)
    go true e f h = let m = leb-true b z ((and-eq-true_iff (leb a b) (leb b z)).0 e).1 in next {x = b} (omega arith) (f (Some rs) (low l) h)
    go false e f h = absurd (true≢false (sym h ∙ utf8_none s))

pub utf8_bytes : (s : Text) → is_utf8 s ≡ true → Bytes s
unfolding is_utf8
utf8_bytes s h = utf8_after_lem s (Some []) (low empty) h

-- UTF-8, and a length that fits a count
abbrev pub IsText : Text → Type 0
IsText s = (length s < 2 ^ 32) × (is_utf8 s ≡ true)

-- so many bytes of UTF-8
raw : ℕ → Format Text
raw k = record {
  put = λ n s. bits_of s;
  get = λ l. let s = bytes_up_to k l in if ltb (length l) (8 * k) then None else when (is_utf8 s) (s, drop (8 * k) l);
}

good_raw : (k : ℕ) → Good (raw k) (λ s. (length s ≡ k) × (is_utf8 s ≡ true))
unfolding raw
good_raw k = record {
  binary = λ n s. bits_binary s;
  back = λ n s rest h e. back s rest h.0 h.1;
  exact = λ n l x b e h. exact n l x b (ltb (length l) (8 * k)) refl h;
}
  where
    back : (s : Text) (rest : Bits) → length s ≡ k → is_utf8 s ≡ true → (raw k).get (bits_of s ++ rest) ≡ Some (s, rest)
    back s rest h u =
        let m : length (bits_of s) ≡ 8 * k = length_bits s ∙ ap (λ (i : ℕ). 8 * i) h in
        let e : bytes_up_to k (bits_of s ++ rest) ≡ s = rw (← h) (bytes_bits rest (utf8_bytes s u)) in
        rw (le-ltb (length (bits_of s ++ rest)) (8 * k) (rw (length-append, m) (omega arith)), e, u, drop_at (bits_of s) rest (8 * k) m)

    exact : (n : ℕ) (l : Bits) (x : Text × Bits) → Binary l → (t : Bool) → ltb (length l) (8 * k) ≡ t
        → (if t then None else when (is_utf8 (bytes_up_to k l)) (bytes_up_to k l, drop (8 * k) l)) ≡ Some x
        → Begins (raw k) (λ s. (length s ≡ k) × (is_utf8 s ≡ true)) n l x
    exact n l x b true e h = never h
    exact n l x b false e h =
        let (u, q) = when_is (is_utf8 (bytes_up_to k l)) (bytes_up_to k l, drop (8 * k) l) x h in
        subst (Begins (raw k) (λ s. (length s ≡ k) × (is_utf8 s ≡ true)) n l) q
        (sym (bits_bytes k b (ltb-false (length l) (8 * k) e)), (length_bytes k l, u))

pub good_count : Good count (λ v. v < 2 ^ 32)
good_count = good_field 32

pub good_text : Good text IsText
unfolding text lead raw behind
good_text =
    regard (λ s h. (h.0, h.1.1)) (λ s h. (h.0, (refl, h.1)))
    (good_lead (length {A = ℕ}) (behind (whole count)) {G = λ k s. (length s ≡ k) × (is_utf8 s ≡ true)} (λ n a. refl) (λ k s h. h.0) (good_whole good_count) good_raw)

-- ---- lists that rise

pub record Rising {A : Type 0} (lt : A → A → Bool) (F : A → Type 0) (l : List A) : Type 0 where
  pub short : length l < 2 ^ 32
  pub each : Each F l
  pub rise : rises lt l ≡ true

-- so many, which rise
ordered : {A : Type 0} → (A → A → Bool) → ℕ → Format A → Format (List A)
ordered lt k f = record { put = put_all f; get = λ l. get_all f k l >>= λ y. when (rises lt y.0) y }

good_ordered : {A : Type 0} (lt : A → A → Bool) (k : ℕ) {f : Format A} {F : A → Type 0} → Good f F
    → Good (ordered lt k f) (λ l. Times F k l × (rises lt l ≡ true))
unfolding ordered times
good_ordered lt k {f} {F} g =
    let all = good_times k g in
    record {
      binary = all.binary;
      back = λ n l rest h e. rw (all.back n l rest h.0 e, h.1);
      exact = λ n l x b e h.
          let (y, p, q) = some_is (get_all f k l) (λ y. when (rises lt y.0) y) x h in
          let (u, r) = when_is (rises lt y.0) y x q in
          let (v, w) = all.exact n l y b e p in
          subst (Begins (ordered lt k f) (λ l. Times F k l × (rises lt l ≡ true)) n l) r (v, (w, u));
    }

count_length : (n a : ℕ) → length (count.put n a) ≡ count_width
unfolding field
count_length n a = length_enc count_width a

pub good_list : {A : Type 0} (lt : A → A → Bool) {f : Format A} {F : A → Type 0} → Good f F → Good (list_of lt f) (Rising lt F)
unfolding list_of lead ordered
good_list {A} lt {f} {F} g =
    regard (λ l h. record { short = h.0; each = h.1.0.each; rise = h.1.1 })
    (λ l h. (h.short, (record { many = refl; each = h.each }, h.rise)))
    (good_lead
    (length {A = A})
    (λ n a. n + count_width)
    {G = λ k l. Times F k l × (rises lt l ≡ true)}
    (λ n a. ap (λ (w : ℕ). (n + w) % 8) (sym (count_length n a)))
    (λ k l h. h.0.many)
    good_count
    (λ k. good_ordered lt k g))

-- ---- whole bytes

-- what is put from a whole byte on ends at one
pub record Fills {A : Type 0} (f : Format A) : Type 0 where
  pub ends : (n : ℕ) (a : A) → n % 8 ≡ 0 → Ends n (f.put n a)

pub fills_whole : {A : Type 0} (f : Format A) → Fills (whole f)
unfolding whole
fills_whole f = record { ends = λ n a h. simp (length-append, length-replicate) (omega arith) }

pub fills_pair : {A B : Type 0} {f : Format A} {g : Format B} → Fills f → Fills g → Fills (f ⊗ g)
unfolding ◌⊗◌
fills_pair {f = f} p q = record {
  ends = λ n a h.
      let m = n + length (f.put n a.0) in
      rw length-append (omega (arith, q.ends m a.1 (p.ends n a.0 h)));
}

fills_all : {A : Type 0} {f : Format A} → Fills f → (n : ℕ) (l : List A) → n % 8 ≡ 0 → Ends n (put_all f n l)
unfolding put_all
fills_all p n [] h = omega arith
fills_all {f = f} p n (x ∷ l) h =
    let m = n + length (f.put n x) in
    rw length-append (omega (arith, fills_all p m l (p.ends n x h)))

pub fills_times : {A : Type 0} (k : ℕ) {f : Format A} → Fills f → Fills (times k f)
unfolding times
fills_times k p = record { ends = fills_all p }

-- of a model's body
pub fills_body : (k : Counts) → Fills (body k)
unfolding body
fills_body k =
    fills_pair (fills_whole project)
    (fills_pair (fills_times k.0 (fills_whole calendar))
    (fills_pair (fills_times k.1.0 (fills_whole activity))
    (fills_pair (fills_times k.1.1.0 (fills_whole link))
    (fills_pair (fills_times k.1.1.1.0 (fills_whole resource))
    (fills_pair (fills_times k.1.1.1.1.0 (fills_whole assignment)) (fills_times k.1.1.1.1.1 (fills_whole expense)))))))
