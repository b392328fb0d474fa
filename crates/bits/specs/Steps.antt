-- Writing: a step goes from a buffer and a place to a buffer and a later place; steps compose, and what does not fit stays past the end.
-- A step says what stands before the new place, and leaves what stood before the old one. Assumes nothing.
use Rattle.std.specs.Prelude.{if◌then◌else◌, ◌≡◌, Bool, List, [], ◌∷◌, ◌++◌, ℕ, ◌+◌, ◌*◌, ◌%◌, ◌≤◌, ◌<◌, take, ℤ}
use Rattle.std.proofs.Math.Path.{refl}
use Rattle.std.proofs.Common.{sym, ap, subst, ◌∙◌, append_assoc, append-nil, add_assoc, add-zero, arith, length-append, length-take-le, take-take}
use Rattle.std.proofs.Math.Bool.{true, false}
use Rattle.std.specs.Prelude.{Option, Some, None}
use Rattle.std.proofs.Math.ListN.{length}
use borrow.Author.Tests.{le-leb, lt-leb}
use Rattle.definition.specs.Bits.{Bits, enc, bits_of, pad, twos}
use Rattle.definition.specs.Date.{Date, day_number}
use Rattle.definition.specs.Format.{Format, field, via, whole, ◌⊗◌, depending, times, put_all, list_of, bit, count, flag, code, time, Period, period, number, date, text}
use Rattle.bits.specs.Over.{over, over_upto, over_before}
use Rattle.laws.specs.Bits.{length_bits, length_enc}
use Rattle.laws.specs.Buf.{Buf, holds, full, ◌▷◌, size_of, ▷-size}
use Rattle.bits.specs.Places.{at, place, past, room, inside, Fits, room_fits, fits_room, room_short, room_none, at_place, next_fits}
use Rattle.bits.specs.declared.Place.{Place}

-- ---- bits laid over those at a place, and nothing else changed

pub record Laid (d : List ℕ) (p : Place) (f : Bits) (d' : List ℕ) (q : Place) : Type 0 where
  pub same : length d' ≡ length d
  pub bits : bits_of d' ≡ if room (length d) p (length f) then over (at p) f (bits_of d) else bits_of d
  pub next : q ≡ if room (length d) p (length f) then place (at p + length f) else past

-- where there is room
pub laid_in : {d : List ℕ} {p : Place} {f : Bits} {d' : List ℕ} {q : Place} → Laid d p f d' q → Fits (length d) p (length f) → bits_of d' ≡ over (at p) f (bits_of d)
laid_in h f = rw (fits_room f) at h.bits

-- ---- steps

-- what a buffer and a place in it stand for: the bits before the place
unfoldable pub view : List ℕ → Place → Buf
view d p = if inside (length d) p then holds (8 * length d) (take (at p) (bits_of d)) else full (8 * length d)

-- a value in its format
abbrev pub puts : {A : Type 0} → Format A → A → Buf → Buf
puts f a b = b ▷ f.put (size_of b) a

-- how many bits of n bytes a step from a place on leaves: those before the place, or all where it is past the end
unfoldable pub before : ℕ → Place → ℕ
before n p = if inside n p then at p else 8 * n

-- From the buffer d and the place p to d' and q, where what stands before the place goes by F. Whether all fits or not, the bits before p stay;
-- from a place past the end nothing changes; and q is not before p. Where all fits, what stands behind q is open; where it does not, so is
-- what stands behind p, and which place past the end q is.
pub record Step (d : List ℕ) (p : Place) (F : Buf → Buf) (d' : List ℕ) (q : Place) : Type 0 where
  pub same : length d' ≡ length d
  pub bits : view d' q ≡ F (view d p)
  pub kept : take (before (length d) p) (bits_of d') ≡ take (before (length d) p) (bits_of d)
  pub onward : before (length d) p ≤ before (length d') q

infixl 15 ◌⨾◌
-- one step and then another
pub ◌⨾◌ : {d : List ℕ} {p : Place} {F : Buf → Buf} {d' : List ℕ} {q : Place} {G : Buf → Buf} {d'' : List ℕ} {r : Place}
    → Step d p F d' q → Step d' q G d'' r → Step d p (λ b. G (F b)) d'' r
◌⨾◌ {d} {p} {d' = d'} {q} {G} {d''} x y =
    let n = before (length d) p in
    let m = before (length d') q in
    let k : take n (bits_of d'') ≡ take n (bits_of d') = sym (take-take n m (bits_of d'') x.onward) ∙ ap (take n) y.kept ∙ take-take n m (bits_of d') x.onward in
    record { same = y.same ∙ x.same; bits = y.bits ∙ ap G x.bits; kept = k ∙ x.kept; onward = omega (arith, x.onward, y.onward) }

-- the same step, said otherwise
pub said : {d : List ℕ} {p : Place} {F : Buf → Buf} {d' : List ℕ} {q : Place} → Step d p F d' q → (G : Buf → Buf) → F (view d p) ≡ G (view d p) → Step d p G d' q
said x G e = record { same = x.same; bits = x.bits ∙ e; kept = x.kept; onward = x.onward }

-- nothing is written
pub stays : {d : List ℕ} {p : Place} (F : Buf → Buf) → F (view d p) ≡ view d p → Step d p F d p
stays F e = record { same = refl; bits = sym e; kept = refl; onward = omega arith }

-- what a step leaves

pub before_in : (n : ℕ) (p : Place) {w : ℕ} → Fits n p w → before n p ≡ at p
unfolding before
before_in n p {w} f =
    let g : Fits n p 0 = record { bit = f.bit; ends = omega (arith, f.ends) } in
    rw (fits_room g)

pub before_out : (n : ℕ) (p : Place) → inside n p ≡ false → before n p ≡ 8 * n
unfolding before
before_out n p h = rw h

pub before_most : (n : ℕ) (p : Place) → before n p ≤ 8 * n
before_most n p = most (inside n p) refl
  where
    most : (t : Bool) → inside n p ≡ t → before n p ≤ 8 * n
    most true e = let f = room_fits n p 0 e in omega (arith, before_in n p f, f.ends)
    most false e = omega (arith, before_out n p e)

-- past the end nothing fits
pub past_out : (n : ℕ) → inside n past ≡ false
past_out n = room_short n past 0 (λ k. absurd (omega arith))

-- nothing fits, and nothing is written
pub refuses : {d : List ℕ} {p : Place} (F : Buf → Buf) → F (view d p) ≡ full (8 * length d) → Step d p F d past
unfolding view
refuses {d} {p} F e =
    let o = past_out (length d) in
    record { same = refl; bits = rw o (sym e); kept = refl; onward = omega (arith, before_most (length d) p, before_out (length d) past o) }

-- ---- laws of the bits written

pub view_in : (d : List ℕ) (p : Place) {w : ℕ} → Fits (length d) p w → view d p ≡ holds (8 * length d) (take (at p) (bits_of d))
unfolding view
view_in d p {w} f =
    let g : Fits (length d) p 0 = record { bit = f.bit; ends = omega (arith, f.ends) } in
    rw (fits_room g)

pub view_out : (d : List ℕ) (p : Place) → inside (length d) p ≡ false → view d p ≡ full (8 * length d)
unfolding view
view_out d p h = rw h

pub length_before : (d : List ℕ) (n : ℕ) → n ≤ 8 * length d → length (take n (bits_of d)) ≡ n
length_before d n h = length-take-le n (bits_of d) (omega (arith, length_bits d))

module _ (d : List ℕ) (p : Place) where
  -- what fits is held
  pub ▷-fits : (f : Bits) → Fits (length d) p (length f) → view d p ▷ f ≡ holds (8 * length d) (take (at p) (bits_of d) ++ f)
  unfolding ◌▷◌
  ▷-fits f h =
      let n = length_before d (at p) (omega (arith, h.ends)) in
      let k : length (take (at p) (bits_of d)) + length f ≤ 8 * length d = omega (arith, h.ends) in
      rw (view_in d p h, le-leb _ _ k)

  pub ▷-short : (f : Bits) → room (length d) p (length f) ≡ false → view d p ▷ f ≡ full (8 * length d)
  unfolding ◌▷◌
  ▷-short f h = short (inside (length d) p) refl
    where
      short : (t : Bool) → inside (length d) p ≡ t → view d p ▷ f ≡ full (8 * length d)
      short false e = rw (view_out d p e)
      short true e =
          let i = room_fits (length d) p 0 e in
          let n = length_before d (at p) (omega (arith, i.ends)) in
          let k : 8 * length d < length (take (at p) (bits_of d)) + length f = omega (arith, room_none (length d) p (length f) h i.bit) in
          rw (view_in d p i, lt-leb _ _ k)

  -- no bits are no step
  pub view_none : view d p ▷ [] ≡ view d p
  view_none = none_if (inside (length d) p) refl
    where
      none_if : (t : Bool) → inside (length d) p ≡ t → view d p ▷ [] ≡ view d p
      none_if true e = let i = room_fits (length d) p 0 e in ▷-fits [] i ∙ rw (append-nil, view_in d p i)
      none_if false e = ▷-short [] e ∙ sym (view_out d p e)

-- the bits before the place stay where others were laid
pub laid_kept : {d : List ℕ} {p : Place} {f : Bits} {d' : List ℕ} {q : Place} → Laid d p f d' q → take (before (length d) p) (bits_of d') ≡ take (before (length d) p) (bits_of d)
laid_kept {d} {p} {f} {d'} h = kept_if (room (length d) p (length f)) refl
  where
    kept_if : (t : Bool) → room (length d) p (length f) ≡ t → take (before (length d) p) (bits_of d') ≡ take (before (length d) p) (bits_of d)
    kept_if false e = let s : bits_of d' ≡ bits_of d = rw e at h.bits in rw s
    kept_if true e =
        let i = room_fits (length d) p (length f) e in
        rw (laid_in h i, before_in (length d) p i) (over_before (at p) (at p) f (bits_of d) (omega arith) (omega (arith, i.ends, length_bits d)))

-- bits that were laid are a step
pub laid_step : {d : List ℕ} {p : Place} {f : Bits} {d' : List ℕ} {q : Place} → Laid d p f d' q → Step d p (λ b. b ▷ f) d' q
laid_step {d} {p} {f} {d'} {q} h = step_if (room (length d) p (length f)) refl
  where
    step_if : (t : Bool) → room (length d) p (length f) ≡ t → Step d p (λ b. b ▷ f) d' q
    step_if true e =
        let i = room_fits (length d) p (length f) e in
        let nx : q ≡ place (at p + length f) = rw e at h.next in
        let bs : bits_of d' ≡ over (at p) f (bits_of d) = rw e at h.bits in
        let k : Fits (length d') (place (at p + length f)) 0 = rw h.same (next_fits i) in
        let up : take (at p + length f) (bits_of d') ≡ take (at p) (bits_of d) ++ f = rw bs (over_upto (at p) f (bits_of d) (omega (arith, i.ends, length_bits d))) in
        record {
          same = h.same;
          bits = rw (nx, view_in d' _ k, at_place, up, h.same) (sym (▷-fits d p f i));
          kept = laid_kept h;
          onward = rw (nx, before_in (length d) p i, before_in (length d') _ k) (omega arith);
        }
    step_if false e =
        let nx : q ≡ past = rw e at h.next in
        let o = past_out (length d') in
        record {
          same = h.same;
          bits = rw (nx, view_out d' past o, h.same) (sym (▷-short d p f e));
          kept = laid_kept h;
          onward = rw (nx, before_out (length d') past o) (omega (arith, before_most (length d) p, h.same));
        }

-- ---- formats

-- zero bits up to a whole byte
abbrev pub padded : Buf → Buf
padded b = b ▷ pad (size_of b)

-- a value was put in its format
pub record Puts {A : Type 0} (f : Format A) (a : A) (d : List ℕ) (p : Place) (d' : List ℕ) (q : Place) : Type 0 where
  pub step : Step d p (puts f a) d' q

-- zero bits were put up to a whole byte
pub record Pads (d : List ℕ) (p : Place) (d' : List ℕ) (q : Place) : Type 0 where
  pub step : Step d p padded d' q
  pub bit : q.bit % 8 ≡ 0

module _ {d : List ℕ} {p : Place} {d' : List ℕ} {q : Place} where
  -- a field is its bits
  pub put_field : (w v : ℕ) → Step d p (λ b. b ▷ enc w v) d' q → Puts (field w) v d p d' q
  unfolding field
  put_field w v x = record { step = x }

  pub field_step : (w : ℕ) {v : ℕ} → Puts (field w) v d p d' q → Step d p (λ b. b ▷ enc w v) d' q
  unfolding field
  field_step w x = x.step

  -- the same value, said otherwise
  pub put_same : {A : Type 0} {f : Format A} {a b : A} → a ≡ b → Puts f a d p d' q → Puts f b d p d' q
  put_same {f = f} e x = subst (λ y. Puts f y d p d' q) e x

  -- a value that stands for another
  pub put_via : {A B : Type 0} (to : A → Option B) (from : B → A) {f : Format A} {b : B} → Puts f (from b) d p d' q → Puts (via to from f) b d p d' q
  unfolding via
  put_via to from x = record { step = x.step }

module _ {d : List ℕ} {p : Place} {d' : List ℕ} {q : Place} {d'' : List ℕ} {r : Place} where
  pub put_then : {A : Type 0} (f : Format A) (a : A) (h : ℕ → Bits) → Step d p (puts f a) d' q → Step d' q (λ b. b ▷ h (size_of b)) d'' r
      → Step d p (λ b. b ▷ (f.put (size_of b) a ++ h (size_of b + length (f.put (size_of b) a)))) d'' r
  put_then f a h x y = said (x ⨾ y) _ (▷-size (view d p) (f.put (size_of (view d p)) a) h)

  -- a value and zero bits up to a whole byte
  pub put_whole : {A : Type 0} {f : Format A} {a : A} → Puts f a d p d' q → Pads d' q d'' r → Puts (whole f) a d p d'' r
  unfolding whole
  put_whole {f = f} {a = a} x y = record { step = put_then f a pad x.step y.step }

  -- one and then another
  pub put-⊗ : {A B : Type 0} {f : Format A} {g : Format B} {a : A} {b : B} → Puts f a d p d' q → Puts g b d' q d'' r → Puts (f ⊗ g) (a, b) d p d'' r
  unfolding ◌⊗◌
  put-⊗ {f = f} {g = g} {a = a} {b = b} x y = record { step = put_then f a (λ n. g.put n b) x.step y.step }

  -- a value and another
  pub put_both : {A B : Type 0} {f : Format A} (test : A → Bool) {g : Format B} {a : A} {b : B}
      → Puts f a d p d' q → Puts g b d' q d'' r → Puts (depending f test g) (a, Some b) d p d'' r
  unfolding depending
  put_both {f = f} test {g = g} {a = a} {b = b} x y = record { step = put_then f a (λ n. g.put n b) x.step y.step }

module _ {d : List ℕ} {p : Place} {d' : List ℕ} {q : Place} where
  -- a value alone
  pub put_alone : {A B : Type 0} {f : Format A} (test : A → Bool) (g : Format B) {a : A} → Puts f a d p d' q → Puts (depending f test g) (a, None) d p d' q
  unfolding depending
  put_alone {f = f} test g {a = a} x = record { step = said x.step _ (sym (ap (λ (l : Bits). view d p ▷ l) (append-nil (f.put (size_of (view d p)) a)))) }

-- ---- lists and texts

all_more : {A : Type 0} (f : Format A) (n : ℕ) (xs : List A) (x : A) → put_all f n (xs ++ (x ∷ [])) ≡ put_all f n xs ++ f.put (n + length (put_all f n xs)) x
unfolding put_all
all_more f n [] x = rw (add-zero, append-nil)
all_more f n (y ∷ xs) x = rw (all_more f (n + length (f.put n y)) xs x, append_assoc, length-append, add_assoc)

-- no items yet, one more, all of them behind their count
pub put_no : {A : Type 0} (k : ℕ) (f : Format A) (d : List ℕ) (p : Place) → Puts (times k f) [] d p d p
unfolding times put_all
put_no k f d p = record { step = stays _ (view_none d p) }

module _ {d : List ℕ} {p : Place} {d' : List ℕ} {q : Place} {d'' : List ℕ} {r : Place} where
  pub put_more : {A : Type 0} (k : ℕ) {f : Format A} {xs : List A} {x : A} → Puts (times k f) xs d p d' q → Puts f x d' q d'' r → Puts (times k f) (xs ++ (x ∷ [])) d p d'' r
  unfolding times
  put_more k {f = f} {xs = xs} {x = x} h i = record {
    step = said (put_then (times k f) xs (λ n. f.put n x) h.step i.step) _ (ap (λ (l : Bits). view d p ▷ l) (sym (all_more f (size_of (view d p)) xs x)));
  }

  pub put_list : {A : Type 0} (k : ℕ) (lt : A → A → Bool) (f : Format A) {xs : List A} → Puts count (length xs) d p d' q → Puts (times k f) xs d' q d'' r → Puts (list_of lt f) xs d p d'' r
  unfolding times list_of field
  put_list k lt f {xs = xs} h i = record {
    step = said (put_then count (length xs) (λ n. put_all f n xs) h.step i.step) _ (ap (λ (n : ℕ). view d p ▷ (enc 32 (length xs) ++ put_all f (size_of (view d p) + n) xs)) (length_enc 32 (length xs)));
  }

  pub put_text : {s : List ℕ} {d1 : List ℕ} {p1 : Place} → Puts count (length s) d p d1 p1 → Pads d1 p1 d' q → Step d' q (λ b. b ▷ bits_of s) d'' r → Puts text s d p d'' r
  unfolding text
  put_text {s = s} h i j = record { step = put_then (whole count) (length s) (λ n. bits_of s) (put_whole h i).step j }

-- ---- the fields of document 01

module _ {d : List ℕ} {p : Place} {d' : List ℕ} {q : Place} where
  pub put_flag : {b : Bool} → Puts (field 1) (bit b) d p d' q → Puts flag b d p d' q
  unfolding flag
  put_flag x = put_via _ _ x

  pub put_code : (lo hi : ℕ) {v : ℕ} → Puts (field 4) v d p d' q → Puts (code lo hi) v d p d' q
  unfolding code
  put_code lo hi x = put_via _ _ x

  pub put_time : {v : ℕ} → Puts (field 11) v d p d' q → Puts time v d p d' q
  unfolding time
  put_time x = put_via _ _ x

  pub put_number : {z : ℤ} → Puts (field 64) (twos 64 z) d p d' q → Puts number z d p d' q
  unfolding number
  put_number x = put_via _ _ x

  pub put_date : {t : Date} → Puts (field 32) (twos 32 (day_number t)) d p d' q → Puts date t d p d' q
  unfolding date
  put_date x = put_via _ _ x

pub put_period : {t : Period} {d : List ℕ} {p : Place} {d' : List ℕ} {q : Place} {d'' : List ℕ} {r : Place}
    → Puts (field 11) t.0 d p d' q → Puts (field 11) t.1 d' q d'' r → Puts period t d p d'' r
unfolding period
put_period x y = put_via _ _ (put-⊗ (put_time x) (put_time y))

-- how many are put is said by the list
pub put_times : {A : Type 0} (k m : ℕ) (f : Format A) {xs : List A} {d : List ℕ} {p : Place} {d' : List ℕ} {q : Place} → Puts (times k f) xs d p d' q → Puts (times m f) xs d p d' q
unfolding times
put_times k m f x = record { step = x.step }
