-- What the code puts together of a number's parts is the definition's number. Assumes nothing.
use Rattle.std.proofs.Common.{◌≡◌, ℕ, zero, suc, ◌+◌, ◌-◌, ◌^◌, ◌<◌, ◌≤◌, min, Bool, true, false, leb, ◌⊎◌, ◌∷◌, ◌++◌, length, get_or, drop, sym, refl, ap, ◌∙◌, inl, inr, add-zero, add-suc, suc-add, zero-add, arith, length-drop, ne_eqb, leb-true, []}
use Rattle.definition.specs.declared.Unread.{Unread}
use Rattle.definition.specs.declared.Unread.TheVariants.{Absent}
use Rattle.std.specs.Prelude.{Err}
use Rattle.std.specs.Prelude.{Option, Some, None}
use lib.Ieee.{Float}
use Rattle.definition.specs.Base.{◌>>=◌, ◌or◌}
use Rattle.definition.specs.Text.{Text, Sign, plus, minus, bare, sign_of, before, after, is_digit, digits}
use Rattle.definition.specs.Number.{Reading, is_dot, is_e, unsigned, scaled, powered, decimal_of, magnitude, negated, number_by, number_of}
use Rattle.number.specs.Number.{limit, hold, Ran, power_by, power_of, power_at, scaled_at, ended}
use Rattle.number.specs.declared.decimal.Power.{Power}
use Rattle.number.specs.declared.decimal.Power.TheVariants as power
use Rattle.laws.specs.Bools.{and_left, and_right}
use Rattle.text.specs.Cut.{place_within, after_drop}
use Rattle.text.specs.Parts.{le_or_lt, at_cons, at_end_lem}
use Rattle.text.specs.Signs.{minus?}
use Rattle.number.proofs.Limits.{digits_cap, up_cap, down_cap}
use Rattle.number.proofs.Held.{Steps, follow, digits_from, from_start, from_digit, from_other, from_cap, held_steps}

-- ---- the sign
pub number_minus : (s : Text) → minus? (sign_of s) ≡ true → negated (magnitude (decimal_of (unsigned (sign_of s) s))) ≡ number_of s
unfolding number_of
number_minus s e = go (sign_of s) e
  where
    go : (g : Sign) → minus? g ≡ true → negated (magnitude (decimal_of (unsigned g s))) ≡ number_by g s
    go plus e = let z : ◌≡◌ {A = ℕ} 0 1 = cc in absurd (omega arith)
    go minus e = refl
    go bare e = let z : ◌≡◌ {A = ℕ} 0 1 = cc in absurd (omega arith)

pub number_other : (s : Text) → minus? (sign_of s) ≡ false → magnitude (decimal_of (unsigned (sign_of s) s)) ≡ number_of s
unfolding number_of
number_other s e = go (sign_of s) e
  where
    go : (g : Sign) → minus? g ≡ false → magnitude (decimal_of (unsigned g s)) ≡ number_by g s
    go plus e = refl
    go minus e = let z : ◌≡◌ {A = ℕ} 0 1 = cc in absurd (omega arith)
    go bare e = refl

pub number_error : (s : Text) (e : Unread) → magnitude (decimal_of (unsigned (sign_of s) s)) ≡ Err e → Err e ≡ number_of s
unfolding number_of
number_error s e h = go (sign_of s) h
  where
    go : (g : Sign) → magnitude (decimal_of (unsigned g s)) ≡ Err e → Err e ≡ number_by g s
    go plus h = sym h
    go minus h = sym (ap negated h)
    go bare h = sym h

-- ---- the power
-- the digits held, none where they are none
abbrev scaled_of : Option ℕ → ℕ → Option Power → Reading Float
scaled_of None places p = Err Absent
scaled_of (Some v) places p = scaled_at v places p

abbrev power_after : Option Text → Option Power
power_after None = Some (power.Up 0)
power_after (Some s) = power_of s

by_sign : (v places : ℕ) → places < 2 ^ 63 → (g : Sign) (y : Option ℕ)
    → scaled_at (min v limit) places (power_by g (hold y)) ≡ magnitude (y >>= λ n. Some (scaled g v places n))
by_sign v places b plus None = refl
by_sign v places b plus (Some n) = digits_cap v (min n limit) places ∙ up_cap v n places b
by_sign v places b minus None = refl
by_sign v places b minus (Some n) = digits_cap v 0 (places + min n limit) ∙ down_cap v places n
by_sign v places b bare None = refl
by_sign v places b bare (Some n) = digits_cap v (min n limit) places ∙ up_cap v n places b

by_power : (x : Option ℕ) (places : ℕ) (o : Option Text) → places < 2 ^ 63
    → scaled_of (hold x) places (power_after o) ≡ magnitude (x >>= λ v. powered v places o)
unfolding power_of
by_power None places None b = refl
by_power None places (Some s) b = refl
by_power (Some v) places None b = digits_cap v 0 places
by_power (Some v) places (Some s) b = by_sign v places b (sign_of s) (digits (unsigned (sign_of s) s))

-- ---- what is left of a number after c digits, which are v: before the dot, and after it, where k of them stood before it
abbrev fraction_of : Text → Text
fraction_of m = after is_dot m or []

abbrev whole_from : ℕ → ℕ → Text → Reading Float
whole_from c v s =
    let m = before is_e s in
    scaled_of (hold (digits_from c v (before is_dot m ++ fraction_of m))) (length (fraction_of m)) (power_after (after is_e s))

abbrev part_from : ℕ → ℕ → ℕ → Text → Reading Float
part_from k c v s =
    let m = before is_e s in
    scaled_of (hold (digits_from (k + c) v m)) (c + length m) (power_after (after is_e s))

fraction_small : (m : Text) → length m < 2 ^ 63 → length (fraction_of m) < 2 ^ 63
fraction_small m h = rw (after_drop is_dot m) (simp length-drop (omega arith))

from_whole : (s : Text) → length s < 2 ^ 63 → magnitude (decimal_of s) ≡ whole_from 0 0 s
unfolding decimal_of
from_whole s h =
    let m = before is_e s in
    sym (by_power (digits (before is_dot m ++ fraction_of m)) (length (fraction_of m)) (after is_e s) (fraction_small m (omega (arith, place_within is_e s))))
    ∙ ap (λ (x : Option ℕ). scaled_of (hold x) (length (fraction_of m)) (power_after (after is_e s))) (from_start (before is_dot m ++ fraction_of m))

-- a digit is neither the dot nor an `e`
digit_most : (b : ℕ) → is_digit b ≡ true → b ≤ 57
digit_most b d = leb-true b 57 (and_right (leb 48 b) (leb b 57) d)

digit_least : (b : ℕ) → is_digit b ≡ true → 48 ≤ b
digit_least b d = leb-true 48 b (and_left (leb 48 b) (leb b 57) d)

no_dot : (b : ℕ) → is_digit b ≡ true → is_dot b ≡ false
no_dot b d = ne_eqb 46 b (λ z. omega (arith, digit_least b d))

no_e : (b : ℕ) → is_digit b ≡ true → is_e b ≡ false
no_e b d = rw (ne_eqb b 101 (λ z. omega (arith, digit_most b d)), ne_eqb b 69 (λ z. omega (arith, digit_most b d)))

module _ (p : ℕ → Bool) (b : ℕ) (s : Text) (no : p b ≡ false) where
  before_on : before p (b ∷ s) ≡ b ∷ before p s
  unfolding before
  before_on = rw no

  after_on : after p (b ∷ s) ≡ after p s
  unfolding after
  after_on = rw no

module _ (p : ℕ → Bool) (b : ℕ) (s : Text) (yes : p b ≡ true) where
  before_here : before p (b ∷ s) ≡ []
  unfolding before
  before_here = rw yes

  after_here : after p (b ∷ s) ≡ Some s
  unfolding after
  after_here = rw yes

whole_steps : Steps whole_from
whole_steps =
    record {
      step = λ c v b s d.
          rw (before_on is_e b s (no_e b d), after_on is_e b s (no_e b d))
          (rw (before_on is_dot b (before is_e s) (no_dot b d), after_on is_dot b (before is_e s) (no_dot b d))
          (ap (λ (x : Option ℕ). scaled_of (hold x) (length (fraction_of (before is_e s))) (power_after (after is_e s))) (from_digit c v b (before is_dot (before is_e s) ++ fraction_of (before is_e s)) d)));
      cap = λ c v s.
          ap (λ (x : Option ℕ). scaled_of x (length (fraction_of (before is_e s))) (power_after (after is_e s))) (from_cap c v (before is_dot (before is_e s) ++ fraction_of (before is_e s)));
    }

part_steps : (k : ℕ) → Steps (part_from k)
part_steps k =
    record {
      step = λ c v b s d.
          rw (before_on is_e b s (no_e b d), after_on is_e b s (no_e b d))
          (ap (λ (x : Option ℕ). scaled_of (hold x) (c + suc (length (before is_e s))) (power_after (after is_e s))) (from_digit (k + c) v b (before is_e s) d)
          ∙ rw (add-suc k c, add-suc c (length (before is_e s)), suc-add c (length (before is_e s))));
      cap = λ c v s.
          ap (λ (x : Option ℕ). scaled_of x (c + length (before is_e s)) (power_after (after is_e s))) (from_cap (k + c) v (before is_e s));
    }

-- at the dot
at_dot : (c v : ℕ) (s : Text) → whole_from c v (46 ∷ s) ≡ part_from c 0 v s
unfolding before after
at_dot c v s = rw (add-zero c, zero-add (length (before is_e s)))

-- ---- behind the digits
behind : (c v places : ℕ) (s : Text) → v ≤ limit → scaled_of (hold (digits_from c v [])) places (power_at s) ≡ ended c v places s
behind zero v places s h = refl
behind (suc c) v places s h = ap (λ (n : ℕ). scaled_at n places (power_at s)) (omega arith)

behind_e : (c v places b : ℕ) (s : Text) → v ≤ limit → is_e b ≡ true → scaled_of (hold (digits_from c v [])) places (power_of s) ≡ ended c v places (b ∷ s)
behind_e c v places b s h e =
    let q : power_of s ≡ power_at (b ∷ s) = rw e in
    ap (λ (p : Option Power). scaled_of (hold (digits_from c v [])) places p) q ∙ behind c v places (b ∷ s) h

behind_other : (c v places b : ℕ) (s : Text) → is_e b ≡ false → (Err Absent) ≡ ended c v places (b ∷ s)
behind_other zero v places b s e = refl
behind_other (suc c) v places b s e = rw e

module _ (v : ℕ) (h : v ≤ limit) where
  whole_nil : (c : ℕ) → whole_from c v [] ≡ ended c v 0 []
  unfolding before after
  whole_nil c = behind c v 0 [] h

  whole_other : (c b : ℕ) (s : Text) → is_digit b ≡ false → (b ≡ 46 → ⊥) → whole_from c v (b ∷ s) ≡ ended c v 0 (b ∷ s)
  unfolding before after
  whole_other c b s d n = go (is_e b) refl
    where
      go : (x : Bool) → is_e b ≡ x → whole_from c v (b ∷ s) ≡ ended c v 0 (b ∷ s)
      go true e = rw (before_here is_e b s e, after_here is_e b s e) (behind_e c v 0 b s h e)
      go false e =
          let q : is_dot b ≡ false = ne_eqb 46 b (λ z. n (sym z)) in
          rw (before_on is_e b s e, after_on is_e b s e)
          (rw (before_on is_dot b (before is_e s) q, after_on is_dot b (before is_e s) q)
          (rw (from_other c v b (before is_dot (before is_e s) ++ fraction_of (before is_e s)) d) (behind_other c v 0 b s e)))

  part_nil : (k c : ℕ) → part_from k c v [] ≡ ended (k + c) v c []
  unfolding before after
  part_nil k c = rw (add-zero c) (behind (k + c) v c [] h)

  part_other : (k c b : ℕ) (s : Text) → is_digit b ≡ false → part_from k c v (b ∷ s) ≡ ended (k + c) v c (b ∷ s)
  part_other k c b s d = go (is_e b) refl
    where
      go : (x : Bool) → is_e b ≡ x → part_from k c v (b ∷ s) ≡ ended (k + c) v c (b ∷ s)
      go true e = rw (before_here is_e b s e, after_here is_e b s e, add-zero c) (behind_e (k + c) v c b s h e)
      go false e =
          rw (before_on is_e b s e, after_on is_e b s e, from_other (k + c) v b (before is_e s) d) (behind_other (k + c) v c b s e)

-- ---- the number, from what was passed over
module _ (s : Text) (small : length s < 2 ^ 63) (v k : ℕ) (a : Ran s 0 0 v k) where
  lead : magnitude (decimal_of s) ≡ whole_from k v (drop k s)
  lead =
      let e : k - 0 ≡ k = omega arith in
      from_whole s small ∙ follow whole_from whole_steps a.reads ∙ ap (λ (c : ℕ). whole_from c v (drop k s)) e

  pub number_whole : (get_or s k 0 ≡ 46 → ⊥) → magnitude (decimal_of s) ≡ ended k v 0 (drop k s)
  number_whole n = lead ∙ go (le_or_lt (length s) k)
    where
      go : (length s ≤ k) ⊎ (k < length s) → whole_from k v (drop k s) ≡ ended k v 0 (drop k s)
      go (inl h) = rw (at_end_lem s k h) (whole_nil v a.held k)
      go (inr h) = rw (at_cons s k h) (whole_other v a.held k (get_or s k 0) (drop (k + 1) s) (a.stops h) n)

  pub number_dot : k < length s → get_or s k 0 ≡ 46 → (w e : ℕ) → Ran s (k + 1) v w e → magnitude (decimal_of s) ≡ ended (e - 1) w (e - k - 1) (drop e s)
  number_dot h dot w e b =
      let c = e - (k + 1) in
      let f = b.forward in
      let p : k + c ≡ e - 1 = omega arith in
      let q : c ≡ e - k - 1 = omega arith in
      lead
      ∙ ap (whole_from k v) (at_cons s k h ∙ ap (λ (x : ℕ). x ∷ drop (k + 1) s) dot)
      ∙ at_dot k v (drop (k + 1) s)
      ∙ follow (part_from k) (part_steps k) b.reads
      ∙ go (le_or_lt (length s) e)
      ∙ ap (λ (n : ℕ). ended n w c (drop e s)) p
      ∙ ap (λ (n : ℕ). ended (e - 1) w n (drop e s)) q
    where
      go : (length s ≤ e) ⊎ (e < length s) → part_from k (e - (k + 1)) w (drop e s) ≡ ended (k + (e - (k + 1))) w (e - (k + 1)) (drop e s)
      go (inl l) = rw (at_end_lem s e l) (part_nil w b.held k (e - (k + 1)))
      go (inr l) = rw (at_cons s e l) (part_other w b.held k (e - (k + 1)) (get_or s e 0) (drop (e + 1) s) (b.stops l))

-- ---- the power, from what was passed over
module _ (t : Text) (w e : ℕ) (a : Ran t 0 0 w e) where
  held : hold (digits t) ≡ hold (digits_from e w (drop e t))
  held =
      let q : e - 0 ≡ e = omega arith in
      ap hold (from_start t) ∙ follow (λ c v s. hold (digits_from c v s)) held_steps a.reads ∙ ap (λ (c : ℕ). hold (digits_from c w (drop e t))) q

  pub not_all : e < length t → hold (digits t) ≡ None
  not_all h = held ∙ rw (at_cons t e h) (rw (from_other e w (get_or t e 0) (drop (e + 1) t) (a.stops h)))

  pub not_one : e ≡ 0 → hold (digits t) ≡ None
  not_one z = go (le_or_lt (length t) e)
    where
      go : (length t ≤ e) ⊎ (e < length t) → hold (digits t) ≡ None
      go (inl h) = held ∙ rw (at_end_lem t e h) (ap (λ (c : ℕ). hold (digits_from c w [])) z)
      go (inr h) = not_all h

  pub all : (e ≡ 0 → ⊥) → length t ≤ e → hold (digits t) ≡ Some w
  all n h = held ∙ rw (at_end_lem t e h) (go e n)
    where
      go : (c : ℕ) → (c ≡ 0 → ⊥) → hold (digits_from c w []) ≡ Some w
      go zero n = absurd (n refl)
      go (suc c) n = let l = a.held in ap Some (omega arith)

module _ (s t : Text) (at : t ≡ unsigned (sign_of s) s) where
  power_with : (o : Option ℕ) → hold (digits t) ≡ o → power_by (sign_of s) o ≡ power_of s
  unfolding power_of
  power_with o e = sym (ap (λ (x : Text). power_by (sign_of s) (hold (digits x))) (sym at) ∙ ap (power_by (sign_of s)) e)

  pub power_none : hold (digits t) ≡ None → None ≡ power_of s
  power_none e = power_with None e

  pub power_down : (n : ℕ) → hold (digits t) ≡ Some n → minus? (sign_of s) ≡ true → Some (power.Down n) ≡ power_of s
  power_down n e m = go (sign_of s) m ∙ power_with (Some n) e
    where
      go : (g : Sign) → minus? g ≡ true → Some (power.Down n) ≡ power_by g (Some n)
      go plus m = let z : ◌≡◌ {A = ℕ} 0 1 = cc in absurd (omega arith)
      go minus m = refl
      go bare m = let z : ◌≡◌ {A = ℕ} 0 1 = cc in absurd (omega arith)

  pub power_up : (n : ℕ) → hold (digits t) ≡ Some n → minus? (sign_of s) ≡ false → Some (power.Up n) ≡ power_of s
  power_up n e m = go (sign_of s) m ∙ power_with (Some n) e
    where
      go : (g : Sign) → minus? g ≡ false → Some (power.Up n) ≡ power_by g (Some n)
      go plus m = refl
      go minus m = let z : ◌≡◌ {A = ℕ} 0 1 = cc in absurd (omega arith)
      go bare m = refl
