-- Passing over a value: where what follows it stands, whatever the value is. To pass over is to read and to forget the value, so the laws are those
-- of the readers. Assumes nothing.
use Rattle.std.specs.Prelude.{◌≡◌, refl, Bool, true, false, List, [], ℕ, ◌+◌, ◌-◌, ◌%◌, ◌≤◌, ◌<◌, ltb, length}
use Rattle.std.proofs.Math.Path.{sym, ap}
use Rattle.std.proofs.Common.{◌∙◌, arith, ltb-true, ltb-false}
use Rattle.std.specs.Prelude.{Option, Some, None}
use Rattle.laws.specs.Options.{bind_assoc, bind_ext, bind_some, some_is}
use Rattle.definition.specs.Base.{◌>>=◌}
use Rattle.definition.specs.Bits.{Bits}
use Rattle.definition.specs.Format.{Format, ◌⊗◌, depending, optional, whole, times, flag}
use Rattle.bits.specs.Reads.{far, rest, Reads, Refuses, Skips, taken_at, pad_at, chain, skip_pad, pad_whole, read_nothing, read-⊗, read_whole, read_both, read_alone, read_some, read_none, read_no, read_on, read_more, refuse_times}
use Rattle.bits.specs.declared.Place.{Place}
use Rattle.model.specs.Lax.{left, Lax, Like, left_bytes, left_all_bytes, passed, like_passed, like_back, like-⊗, like_whole, like_depending, like_optional}

-- a skipper answered the place q: the format gives a value at p, and q stands behind it; or it gives nothing, and q is past
pub record Passes {A : Type 0} (f : Format A) (s : List ℕ) (p q : Place) : Type 0 where
  pub passes : (rest s p >>= left f) ≡ rest s q

module _ {A : Type 0} {f : Format A} {s : List ℕ} {p q : Place} where
  pub pass_read : {a : A} → Reads f s p a q → Passes f s p q
  pass_read h = record { passes = chain {f = f} (λ x. Some x.1) h ∙ bind_some (rest s q) }

  pub pass_refused : Refuses f s p → rest s q ≡ None → Passes f s p q
  pass_refused h e =
      let k : A × Bits → Option Bits = λ x. Some x.1 in
      record { passes = sym (bind_assoc (rest s p) f.get k) ∙ ap (λ (o : Option (A × Bits)). o >>= k) h.gives ∙ sym e }

  forgotten : Passes f s p q → Reads (passed f) s p tt q
  unfolding passed
  forgotten h = record { reads = sym (bind_assoc (rest s p) (left f) (λ r. Some (tt, r))) ∙ ap (λ (o : Option Bits). o >>= λ r. Some (tt, r)) h.passes }

pub pass_like : {A B : Type 0} {f : Format A} {g : Format B} {s : List ℕ} {p q : Place} → Like f g → Passes f s p q → Passes g s p q
pass_like {f = f} {g = g} {s} {p} k h = record { passes = bind_ext (rest s p) (left g) (left f) (λ l. sym (k.like l)) ∙ h.passes }

pub pass_as : {A : Type 0} {f : Format A} {g : Format (Unit {0})} {s : List ℕ} {p q : Place} → g ≡ passed f → Passes f s p q → Passes g s p q
pass_as {f = f} e h = rw e (pass_like (like_back (like_passed f)) h)

-- a flag at p was taken: where it is set, φ holds of the place behind it; where it is not, that place was answered
pub record Flagged (s : List ℕ) (p r : Place) (φ : Place → Type 0) : Type 0 where
  pub set : (taken_at s p 1).value ≡ 1 → φ (taken_at s p 1).next
  pub clear : ((taken_at s p 1).value ≡ 1 → ⊥) → r ≡ (taken_at s p 1).next

-- from p on, a function was called so many times, each time at the place behind; φ is what is known of its answers
pub data Called (φ : Place → Place → Type 0) (p : Place) : ℕ → Place → Type 0 where
  begun : Called φ p 0 p
  again : {n m : ℕ} {q r : Place} → m ≡ n + 1 → Called φ p n q → φ q r → Called φ p m r

-- so often as was asked, or until a place past every end
pub record Repeated (φ : Place → Place → Type 0) (p : Place) (count : ℕ) (r : Place) : Type 0 where
  pub often : ℕ
  pub called : Called φ p often r
  pub most : often ≤ count
  pub cut : often < count → 7 < r.bit

-- ---- what a place behind a value tells

pub data Told {A : Type 0} (f : Format A) (s : List ℕ) (p q : Place) : Type 0 where
  refusing : Refuses f s p → rest s q ≡ None → Told f s p q
  reading : (a : A) (l : Bits) → rest s q ≡ Some l → Reads f s p a q → Told f s p q

pub told : {A : Type 0} {f : Format A} {s : List ℕ} {p q : Place} → Passes f s p q → Told f s p q
told {A} {f} {s} {p} {q} h = told_if (rest s p >>= f.get) refl
  where
    ends : (o : Option (A × Bits)) → (rest s p >>= f.get) ≡ o → rest s q ≡ (o >>= λ x. Some x.1)
    ends o e = sym h.passes ∙ sym (bind_assoc (rest s p) f.get (λ x. Some x.1)) ∙ ap (λ (o : Option (A × Bits)). o >>= λ x. Some x.1) e

    told_if : (o : Option (A × Bits)) → (rest s p >>= f.get) ≡ o → Told f s p q
    told_if None e = refusing (record { gives = e }) (ends None e)
    told_if (Some x) e = let z : rest s q ≡ Some x.1 = ends (Some x) e in reading x.0 x.1 z (record { reads = e ∙ rw z })

-- ---- the readers' laws, with the values forgotten

module _ {s : List ℕ} {p q r : Place} where
  infixr 20 ◌⨾◌
  pub ◌⨾◌ : {A B : Type 0} {f : Format A} {g : Format B} → Passes f s p q → Passes g s q r → Passes (f ⊗ g) s p r
  ◌⨾◌ {f = f} {g = g} h i = pass_like (like-⊗ (like_passed f) (like_passed g)) (pass_read (read-⊗ (forgotten h) (forgotten i)))

  pub pass_whole : {A : Type 0} {f : Format A} → Passes f s p q → Skips s q r → Passes (whole f) s p r
  pass_whole {f = f} h i = pass_like (like_whole (like_passed f)) (pass_read (read_whole (forgotten h) i))

  pub pass_both : {A B : Type 0} {f : Format A} (test : A → Bool) {g : Format B} {a : A} → Reads f s p a q → test a ≡ true → Passes g s q r → Passes (depending f test g) s p r
  pass_both {f = f} test {g = g} h e i = pass_like (like_depending f test (like_passed g)) (pass_read (read_both test h e (forgotten i)))

  pub pass_some : {A : Type 0} {f : Format A} → Reads flag s p true q → Passes f s q r → Passes (optional f) s p r
  pass_some {f = f} h i = pass_like (like_optional (like_passed f)) (pass_read (read_some h (forgotten i)))

module _ {s : List ℕ} {p q : Place} where
  pub pass_alone : {A B : Type 0} {f : Format A} (test : A → Bool) (g : Format B) {a : A} → Reads f s p a q → test a ≡ false → Passes (depending f test g) s p q
  pass_alone test g h e = pass_read (read_alone test g h e)

  pub pass_none : {A : Type 0} (f : Format A) → Reads flag s p false q → Passes (optional f) s p q
  pass_none f h = pass_read (read_none f h)

module _ {A : Type 0} (f : Format A) where
  pub pass_no : (s : List ℕ) (p : Place) → Passes (times 0 f) s p p
  pass_no s p = pass_read (read_no f s p)

  module _ {s : List ℕ} {p q : Place} where
    -- some items were read; none, where they cannot be
    items : (k : ℕ) → Passes (times k f) s p q → (xs : List A) × Reads (times k f) s p xs q
    items k h = by_told (told h)
      where
        by_told : Told (times k f) s p q → (xs : List A) × Reads (times k f) s p xs q
        by_told (refusing n z) = ([], read_nothing [] n z)
        by_told (reading xs l z t) = (xs, t)

    -- one item more
    pub pass_more : (k : ℕ) {r : Place} → Passes (times k f) s p q → Passes f s q r → Passes (times (k + 1) f) s p r
    pass_more k {r} h i = by_told (told i)
      where
        by_told : Told f s q r → Passes (times (k + 1) f) s p r
        by_told (refusing n z) = pass_refused (refuse_times f k (k + 1) (items k h).1 n (omega arith)) z
        by_told (reading a l z t) = pass_read (read_more f k (items k h).1 t)

    -- nothing stands behind an item that is refused
    pub pass_cut : (k n : ℕ) → k ≤ n → Passes (times k f) s p q → rest s q ≡ None → Passes (times n f) s p q
    pass_cut k n le h e =
        let m = n - k in
        let z : n ≡ k + m = omega arith in
        rw z (pass_refused (record { gives = read_on f k m (items k h).1 ∙ rw e }) e)

  -- passed over again and again
  module _ {φ : Place → Place → Type 0} {s : List ℕ} {p : Place} (on : (q r : Place) → φ q r → Passes f s q r) where
    pass_called : {n : ℕ} {r : Place} → Called φ p n r → Passes (times n f) s p r
    pass_called begun = pass_no s p
    pass_called (again {n} {m} {q} {r} e x h) = rw e (pass_more n (pass_called x) (on q r h))

    pub pass_repeated : {n : ℕ} {r : Place} → Repeated φ p n r → Passes (times n f) s p r
    pass_repeated {n} {r} h = by_often (ltb h.often n) refl
      where
        by_often : (t : Bool) → ltb h.often n ≡ t → Passes (times n f) s p r
        by_often true e = pass_cut h.often n h.most (pass_called h.called) (far s r (h.cut (ltb-true h.often n e)))
        by_often false e = let z : n ≡ h.often = omega (arith, h.most, ltb-false h.often n e) in rw z (pass_called h.called)

-- where a stricter format is not refused, the place behind the other is behind it
pub lax_pass : {A B : Type 0} {f : Format A} {g : Format B} {s : List ℕ} {p q : Place} → Lax g f → (Refuses f s p → ⊥) → Passes g s p q → Passes f s p q
lax_pass {A} {f = f} {g = g} {s} {p} {q} a n h = by_start (rest s p) refl
  where
    none_there : (o : Option Bits) → rest s p ≡ o → (o >>= f.get) ≡ None → ⊥
    none_there o z e = n (record { gives = ap (λ (o : Option Bits). o >>= f.get) z ∙ e })

    by_value : (l : Bits) → rest s p ≡ Some l → (o : Option (A × Bits)) → f.get l ≡ o → Passes f s p q
    by_value l z None e = absurd (none_there (Some l) z e)
    by_value l z (Some x) e =
        let u : left f l ≡ Some x.1 = ap (λ (o : Option (A × Bits)). o >>= λ y. Some y.1) e in
        let v : left g l ≡ Some x.1 = a.lax l x.1 u in
        record { passes = ap (λ (o : Option Bits). o >>= left f) z ∙ u ∙ sym v ∙ ap (λ (o : Option Bits). o >>= left g) (sym z) ∙ h.passes }

    by_start : (o : Option Bits) → rest s p ≡ o → Passes f s p q
    by_start None z = absurd (none_there None z refl)
    by_start (Some l) z = by_value l z (f.get l) refl

-- ---- a whole is made of the parts that stand between its places

pub same_rest : {A : Type 0} {f : Format A} {s : List ℕ} {p q r : Place} → Passes f s p q → Passes f s p r → rest s q ≡ rest s r
same_rest h i = sym h.passes ∙ i.passes

-- nothing stands behind nothing
pub stood : {A : Type 0} {f : Format A} {s : List ℕ} {p q : Place} {l : Bits} → rest s q ≡ Some l → Passes f s p q → (m : Bits) × (rest s p ≡ Some m)
stood {f = f} {s} {p} {q} {l} e h = from (rest s p) refl
  where
    from : (o : Option Bits) → rest s p ≡ o → (m : Bits) × (rest s p ≡ Some m)
    from None z =
        let x : None ≡ Some l = sym (ap (λ (o : Option Bits). o >>= left f) z) ∙ h.passes ∙ e in
        let n : ◌≡◌ {A = ℕ} 0 1 = cc in
        absurd (omega arith)
    from (Some m) z = (m, z)

-- a place behind whole records, if it is one: whole bytes are left there
abbrev pub Bytewise : List ℕ → Place → Type 0
Bytewise s p = (l : Bits) → rest s p ≡ Some l → length l % 8 ≡ 0

module _ {A : Type 0} (f : Format A) {s : List ℕ} {p q : Place} where
  pub bytewise : Passes (whole f) s p q → Bytewise s q
  bytewise h m e = let (l, z, g) = some_is (rest s p) (left (whole f)) m (h.passes ∙ e) in left_bytes f l m g

  pub bytewise_all : (n : ℕ) → Bytewise s p → Passes (times n (whole f)) s p q → Bytewise s q
  bytewise_all n b h m e = let (l, z, g) = some_is (rest s p) (left (times n (whole f))) m (h.passes ∙ e) in left_all_bytes f n l m (b l z) g

-- a record and the zero bits up to a whole byte
pub ended : {A : Type 0} {f : Format A} {s : List ℕ} {p q r : Place} → Passes f s p q → r ≡ pad_at s q → Passes (whole f) s p r × (r.bit % 8 ≡ 0)
ended {s = s} {q = q} h e = (pass_whole h (skip_pad s q e), pad_whole s q e)
