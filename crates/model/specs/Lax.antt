-- What a format leaves behind a value, whatever the value is; and formats that take more: what a stricter format passes over, they pass over too,
-- to the same place. So a decoded record can be passed over without its tests. One law for each way in which formats are made. Assumes nothing.
use Rattle.std.specs.Prelude.{◌≡◌, Bool, true, false, ℕ, zero, suc, ◌-◌, ◌%◌, length, take, drop, replicate}
use Rattle.std.proofs.Math.Path.{refl}
use Rattle.std.proofs.Common.{sym, ap, ◌∙◌, arith, length-drop}
use mathlib.Core.List.{List, [], ◌∷◌}
use Rattle.std.specs.Prelude.{Option, Some, None}
use Rattle.laws.specs.Options.{Some-injective}
use Rattle.laws.specs.Options.{some_is, when_is}
use Rattle.definition.specs.Base.{◌>>=◌, when, same}
use Rattle.definition.specs.Bits.{Bits}
use Rattle.definition.specs.Format.{Format, via, ◌⊗◌, depending, get_given, optional, whole, get_pad, times, get_all, flag}

-- what is left behind a value
abbrev pub behind : {A : Type 0} → Option (A × Bits) → Option Bits
behind o = o >>= λ x. Some x.1

abbrev pub left : {A : Type 0} → Format A → Bits → Option Bits
left f l = behind (f.get l)

-- g passes over what f does
pub record Lax {A B : Type 0} (g : Format B) (f : Format A) : Type 0 where
  pub lax : (l m : Bits) → left f l ≡ Some m → left g l ≡ Some m

-- two formats that leave the same
pub record Like {A B : Type 0} (f : Format A) (g : Format B) : Type 0 where
  pub like : (l : Bits) → left f l ≡ left g l

-- ---- one format and another

pub lax_same : {A : Type 0} (f : Format A) → Lax f f
lax_same f = record { lax = λ l m e. e }

pub lax_of : {A B C : Type 0} {f : Format A} {g : Format B} {h : Format C} → Lax g f → Like f h → Lax g h
lax_of a k = record { lax = λ l m e. a.lax l m (k.like l ∙ e) }

pub lax_like : {A B C : Type 0} {f : Format A} {g : Format B} {h : Format C} → Like h g → Lax g f → Lax h f
lax_like k a = record { lax = λ l m e. k.like l ∙ a.lax l m e }

module _ {A B : Type 0} {f : Format A} {g : Format B} where
  pub like_back : Like f g → Like g f
  like_back k = record { like = λ l. sym (k.like l) }

  of_like : Like f g → Lax f g
  of_like k = record { lax = λ l m e. k.like l ∙ e }

  -- each takes what the other does
  both_lax : Lax f g → Lax g f → Like f g
  both_lax a b = record { like = λ l. by_left l (left f l) (left g l) refl refl }
    where
      by_left : (l : Bits) (x y : Option Bits) → left f l ≡ x → left g l ≡ y → x ≡ y
      by_left l None None e h = refl
      by_left l None (Some m) e h = sym e ∙ a.lax l m h
      by_left l (Some m) y e h = sym (b.lax l m e) ∙ h

pub like_then : {A B C : Type 0} {f : Format A} {g : Format B} {h : Format C} → Like f g → Like g h → Like f h
like_then a b = record { like = λ l. a.like l ∙ b.like l }

-- what comes of two steps, if each passes over what the other's does
steps : {k h k' h' : Bits → Option Bits} → ((l m : Bits) → k l ≡ Some m → h l ≡ Some m) → ((l m : Bits) → k' l ≡ Some m → h' l ≡ Some m)
    → (l m : Bits) → (k l >>= k') ≡ Some m → (h l >>= h') ≡ Some m
steps {k} {h} {k'} {h'} a b l m = by_first (k l) refl
  where
    by_first : (o : Option Bits) → k l ≡ o → (o >>= k') ≡ Some m → (h l >>= h') ≡ Some m
    by_first None z e = cc
    by_first (Some r) z e = rw (a l r z) (b r m e)

-- ---- one and then another

module _ {A B : Type 0} (f : Format A) (g : Format B) where
  left-⊗ : (l : Bits) → left (f ⊗ g) l ≡ (left f l >>= left g)
  unfolding ◌⊗◌
  left-⊗ l = first (f.get l)
    where
      second : (a : A) (o : Option (B × Bits)) → behind {A = A × B} (o >>= λ y. Some ((a, y.0), y.1)) ≡ behind o
      second a None = refl
      second a (Some y) = refl

      first : (o : Option (A × Bits)) → behind {A = A × B} (o >>= λ x. g.get x.1 >>= λ y. Some ((x.0, y.0), y.1)) ≡ (behind o >>= left g)
      first None = refl
      first (Some x) = second x.0 (g.get x.1)

module _ {A B C D : Type 0} {f : Format A} {g : Format B} {f' : Format C} {g' : Format D} where
  pub lax-⊗ : Lax g f → Lax g' f' → Lax (g ⊗ g') (f ⊗ f')
  lax-⊗ a b = record { lax = λ l m e. left-⊗ g g' l ∙ steps a.lax b.lax l m (sym (left-⊗ f f' l) ∙ e) }

pub like-⊗ : {A B C D : Type 0} {f : Format A} {g : Format B} {f' : Format C} {g' : Format D} → Like f g → Like f' g' → Like (f ⊗ f') (g ⊗ g')
like-⊗ a b = both_lax (lax-⊗ (of_like a) (of_like b)) (lax-⊗ (of_like (like_back a)) (of_like (like_back b)))

-- the same fields in other groups
pub record Regroups {A B : Type 0} (f : Format A) (g : Format B) (to : A → B) : Type 0 where
  pub same : (l : Bits) → g.get l ≡ (f.get l >>= λ x. Some (to x.0, x.1))

pub regroup_none : {A : Type 0} (f : Format A) → Regroups f f (λ a. a)
regroup_none {A} f = record { same = λ l. each (f.get l) }
  where
    each : (o : Option (A × Bits)) → o ≡ (o >>= λ x. Some (x.0, x.1))
    each None = refl
    each (Some x) = refl

-- one more in the first group
pub regroup_more : {A B C D : Type 0} (a : Format A) {f : Format B} (g : Format C) (h : Format D) {to : B → C × D} → Regroups f (g ⊗ h) to
    → Regroups (a ⊗ f) ((a ⊗ g) ⊗ h) (λ v. ((v.0, (to v.1).0), (to v.1).1))
unfolding ◌⊗◌
regroup_more {A} {B} {C} {D} a {f} g h {to} r = record { same = λ l. by_first (a.get l) }
  where
    put_in : A → (C × D) × Bits → Option (((A × C) × D) × Bits)
    put_in x u = Some (((x, u.0.0), u.0.1), u.1)

    pair : {E : Type 0} → A → E × Bits → Option ((A × E) × Bits)
    pair x y = Some ((x, y.0), y.1)

    third : (A × C) × Bits → Option (((A × C) × D) × Bits)
    third z = h.get z.1 >>= λ w. Some ((z.0, w.0), w.1)

    regrouped : (A × B) × Bits → Option (((A × C) × D) × Bits)
    regrouped v = Some (((v.0.0, (to v.0.1).0), (to v.0.1).1), v.1)

    by_third : (x : A) (y : C) (o : Option (D × Bits)) → ◌≡◌ {A = Option (((A × C) × D) × Bits)} (o >>= λ w. Some (((x, y), w.0), w.1)) (o >>= (λ w. Some ((y, w.0), w.1)) >>= put_in x)
    by_third x y None = refl
    by_third x y (Some w) = refl

    by_second : (x : A) (o : Option (C × Bits))
        → (o >>= (λ y. pair x y) >>= third) ≡ (o >>= (λ y. h.get y.1 >>= λ w. Some ((y.0, w.0), w.1)) >>= put_in x)
    by_second x None = refl
    by_second x (Some y) = by_third x y.0 (h.get y.1)

    by_rest : (x : A) (o : Option (B × Bits))
        → (o >>= (λ y. Some (to y.0, y.1)) >>= put_in x) ≡ (o >>= (λ y. pair x y) >>= regrouped)
    by_rest x None = refl
    by_rest x (Some y) = refl

    by_first : (o : Option (A × Bits))
        → (o >>= (λ x. g.get x.1 >>= pair x.0) >>= third) ≡ (o >>= (λ x. f.get x.1 >>= pair x.0) >>= regrouped)
    by_first None = refl
    by_first (Some x) = by_second x.0 (g.get x.1) ∙ ap (λ (o : Option ((C × D) × Bits)). o >>= put_in x.0) (r.same x.1) ∙ by_rest x.0 (f.get x.1)

pub regroup_like : {A B : Type 0} {f : Format A} {g : Format B} {to : A → B} → Regroups f g to → Like g f
regroup_like {A} {B} {f} {g} {to} r = record { like = λ l. ap behind (r.same l) ∙ each (f.get l) }
  where
    each : (o : Option (A × Bits)) → behind {A = B} (o >>= λ x. Some (to x.0, x.1)) ≡ behind o
    each None = refl
    each (Some x) = refl

-- ---- values that stand for others

pub like_named : {A B : Type 0} (to : A → B) (from : B → A) (f : Format A) → Like f (via (λ a. Some (to a)) from f)
unfolding via
like_named {A} {B} to from f = record { like = λ l. turn (f.get l) }
  where
    turn : (o : Option (A × Bits)) → behind o ≡ behind {A = B} (o >>= λ x. Some (to x.0) >>= λ b. Some (b, x.1))
    turn None = refl
    turn (Some x) = refl

-- ---- zero bits up to a whole byte

left_whole : {A : Type 0} (f : Format A) (l : Bits) → left (whole f) l ≡ (left f l >>= get_pad)
unfolding whole
left_whole {A} f l = first (f.get l)
  where
    second : (a : A) (o : Option Bits) → behind {A = A} (o >>= λ r. Some (a, r)) ≡ o
    second a None = refl
    second a (Some r) = refl

    first : (o : Option (A × Bits)) → behind {A = A} (o >>= λ x. get_pad x.1 >>= λ r. Some (x.0, r)) ≡ (behind o >>= get_pad)
    first None = refl
    first (Some x) = second x.0 (get_pad x.1)

-- what is left behind it is whole bytes
pad_bytes : (t : Bool) (r m : Bits) → when t (drop (length r % 8) r) ≡ Some m → length m % 8 ≡ 0
pad_bytes t r m e =
    let n : length m ≡ length r - length r % 8 = ap length (sym (when_is t (drop (length r % 8) r) m e).1) ∙ length-drop (length r % 8) r in
    omega arith

pub left_bytes : {A : Type 0} (f : Format A) (l m : Bits) → left (whole f) l ≡ Some m → length m % 8 ≡ 0
unfolding get_pad
left_bytes f l m e = let (r, h, g) = some_is (left f l) get_pad m (sym (left_whole f l) ∙ e) in pad_bytes (same (take (length r % 8) r) (replicate (length r % 8) 0)) r m g

pub lax_whole : {A B : Type 0} {f : Format A} {g : Format B} → Lax g f → Lax (whole g) (whole f)
lax_whole {f = f} {g = g} a = record { lax = λ l m e. left_whole g l ∙ steps a.lax (λ l m e. e) l m (sym (left_whole f l) ∙ e) }

pub like_whole : {A B : Type 0} {f : Format A} {g : Format B} → Like f g → Like (whole f) (whole g)
like_whole a = both_lax (lax_whole (of_like a)) (lax_whole (of_like (like_back a)))

-- ---- a value, and another where a test of the first says so

abbrev left_given : {B : Type 0} → Bool → Format B → Bits → Option Bits
left_given false g l = Some l
left_given true g l = left g l

module _ {A B : Type 0} (f : Format A) (test : A → Bool) (g : Format B) where
  left_depending : (l : Bits) → left (depending f test g) l ≡ (f.get l >>= λ x. left_given (test x.0) g x.1)
  unfolding depending
  left_depending l = first (f.get l)
    where
      pair : A → Option B × Bits → Option ((A × Option B) × Bits)
      pair a y = Some ((a, y.0), y.1)

      second : (a : A) (o : Option (B × Bits)) → behind (o >>= (λ y. Some (Some y.0, y.1)) >>= pair a) ≡ behind o
      second a None = refl
      second a (Some y) = refl

      by_test : (a : A) (t : Bool) (r : Bits) → behind (get_given t g r >>= pair a) ≡ left_given t g r
      by_test a false r = refl
      by_test a true r = second a (g.get r)

      first : (o : Option (A × Bits)) → behind (o >>= λ x. get_given (test x.0) g x.1 >>= pair x.0) ≡ (o >>= λ x. left_given (test x.0) g x.1)
      first None = refl
      first (Some x) = by_test x.0 (test x.0) x.1

module _ {A B C : Type 0} (f : Format A) (test : A → Bool) {g : Format B} {h : Format C} where
  lax_depending : Lax h g → Lax (depending f test h) (depending f test g)
  lax_depending a = record { lax = λ l m e. left_depending f test h l ∙ by_first (f.get l) m (sym (left_depending f test g l) ∙ e) }
    where
      by_value : (t : Bool) (l m : Bits) → left_given t g l ≡ Some m → left_given t h l ≡ Some m
      by_value true l m e = a.lax l m e
      by_value false l m e = e

      by_first : (o : Option (A × Bits)) (m : Bits) → (o >>= λ x. left_given (test x.0) g x.1) ≡ Some m → (o >>= λ x. left_given (test x.0) h x.1) ≡ Some m
      by_first None m e = e
      by_first (Some x) m e = by_value (test x.0) x.1 m e

pub like_depending : {A B C : Type 0} (f : Format A) (test : A → Bool) {g : Format B} {h : Format C} → Like g h → Like (depending f test g) (depending f test h)
like_depending f test a = both_lax (lax_depending f test (of_like a)) (lax_depending f test (of_like (like_back a)))

pub lax_optional : {A B : Type 0} {f : Format A} {g : Format B} → Lax g f → Lax (optional g) (optional f)
unfolding optional
lax_optional a = lax_like (like_back (like_named _ _ _)) (lax_of (lax_depending flag (λ b. b) a) (like_named _ _ _))

pub like_optional : {A B : Type 0} {f : Format A} {g : Format B} → Like f g → Like (optional f) (optional g)
like_optional a = both_lax (lax_optional (of_like a)) (lax_optional (of_like (like_back a)))

-- ---- so many, one after another

module _ {A : Type 0} (f : Format A) where
  pub all_zero : (l : Bits) → get_all f 0 l ≡ Some ([], l)
  unfolding get_all
  all_zero l = refl

  pub all_suc : (n : ℕ) (l : Bits) → get_all f (suc n) l ≡ (f.get l >>= λ x. get_all f n x.1 >>= λ y. Some (x.0 ∷ y.0, y.1))
  unfolding get_all
  all_suc n l = refl

  pub left_zero : (l : Bits) → left (times 0 f) l ≡ Some l
  unfolding times
  left_zero l = rw all_zero

  pub left_suc : (n : ℕ) (l : Bits) → left (times (suc n) f) l ≡ (left f l >>= left (times n f))
  unfolding times
  left_suc n l = rw all_suc (first (f.get l))
    where
      second : (a : A) (o : Option (List A × Bits)) → behind {A = List A} (o >>= λ y. Some (a ∷ y.0, y.1)) ≡ behind o
      second a None = refl
      second a (Some y) = refl

      first : (o : Option (A × Bits)) → behind {A = List A} (o >>= λ x. get_all f n x.1 >>= λ y. Some (x.0 ∷ y.0, y.1)) ≡ (behind o >>= λ r. behind (get_all f n r))
      first None = refl
      first (Some x) = second x.0 (get_all f n x.1)

pub left_all_bytes : {A : Type 0} (f : Format A) (n : ℕ) (l m : Bits) → length l % 8 ≡ 0 → left (times n (whole f)) l ≡ Some m → length m % 8 ≡ 0
left_all_bytes f zero l m b e = let z : l ≡ m = Some-injective l m (sym (left_zero (whole f) l) ∙ e) in rw (← z) b
left_all_bytes f (suc n) l m b e =
    let (r, h, g) = some_is (left (whole f) l) (left (times n (whole f))) m (sym (left_suc (whole f) n l) ∙ e) in
    left_all_bytes f n r m (left_bytes f l r h) g

module _ {A B : Type 0} {f : Format A} {g : Format B} where
  pub lax_times : (n : ℕ) → Lax g f → Lax (times n g) (times n f)
  lax_times zero a = record { lax = λ l m e. left_zero g l ∙ sym (left_zero f l) ∙ e }
  lax_times (suc n) a = record { lax = λ l m e. left_suc g n l ∙ steps a.lax (lax_times n a).lax l m (sym (left_suc f n l) ∙ e) }

pub like_times : {A B : Type 0} {f : Format A} {g : Format B} (n : ℕ) → Like f g → Like (times n f) (times n g)
like_times n a = both_lax (lax_times n (of_like a)) (lax_times n (of_like (like_back a)))

-- ---- the value forgotten

unfoldable pub passed : {A : Type 0} → Format A → Format (Unit {0})
passed f = record { put = λ n u. []; get = λ l. left f l >>= λ r. Some (tt, r) }

pub like_passed : {A : Type 0} (f : Format A) → Like (passed f) f
unfolding passed
like_passed {A} f = record { like = λ l. forgets (left f l) }
  where
    forgets : (o : Option Bits) → behind {A = Unit {0}} (o >>= λ r. Some (tt, r)) ≡ o
    forgets None = refl
    forgets (Some r) = refl
