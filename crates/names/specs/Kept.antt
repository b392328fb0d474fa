-- What was put in a format that gives back what fits is read there, and still is while the bits before a place stay. Assumes nothing.
use Rattle.std.specs.Prelude.{◌≡◌, refl, Bool, true, false, List, ◌++◌, ℕ, ◌+◌, ◌-◌, ◌*◌, ◌≤◌, length, take, drop}
use Rattle.std.proofs.Common.{sym, ap, ◌∙◌, append_assoc, arith, length-append, length-drop, take-append-drop, take-take, take_at}
use Rattle.std.specs.Prelude.{Option, Some, None}
use Rattle.definition.specs.Base.{◌>>=◌}
use Rattle.definition.specs.Bits.{Bits, bits_of}
use Rattle.definition.specs.Format.{Format}
use Rattle.laws.specs.Options.{never}
use Rattle.laws.specs.Each.{each_drop}
use Rattle.laws.specs.Bits.{bits_binary, length_bits}
use Rattle.laws.specs.Buf.{Buf}
use Rattle.laws.specs.Formats.{Ends, Good, Fills}
use Rattle.bits.specs.Places.{at, place, inside, Fits, room_fits, fits_room, at_place, next_fits}
use Rattle.bits.specs.Reads.{rest, rest_in, rest_out, length_rest, spot, spot_at, Reads}
use Rattle.bits.specs.Round.{Stood, stood_from, stood_before, put_stood}
use Rattle.bits.specs.Steps.{Step, Puts, before, length_before}
use Rattle.bits.specs.declared.Place.{Place}

-- ---- what stays

-- the first n bits of a buffer are those of another
pub record Kept (n : ℕ) (d d' : List ℕ) : Type 0 where
  pub same : length d' ≡ length d
  pub bits : take n (bits_of d') ≡ take n (bits_of d)

pub step_kept : {d : List ℕ} {p : Place} {F : Buf → Buf} {d' : List ℕ} {q : Place} → Step d p F d' q → Kept (before (length d) p) d d'
step_kept s = record { same = s.same; bits = s.kept }

pub kept_less : {m n : ℕ} {d d' : List ℕ} → m ≤ n → Kept n d d' → Kept m d d'
kept_less {m} {n} {d} {d'} h k = record { same = k.same; bits = sym (take-take m n (bits_of d') h) ∙ ap (take m) k.bits ∙ take-take m n (bits_of d) h }

pub kept_on : {n : ℕ} {d d' d'' : List ℕ} → Kept n d d' → Kept n d' d'' → Kept n d d''
kept_on x y = record { same = y.same ∙ x.same; bits = y.bits ∙ x.bits }

-- ---- bits that stand at a place, and the place behind them

abbrev pub There : List ℕ → Place → Bits → Place → Type 0
There d p f q = Stood d p f d q

pub there_at : {d : List ℕ} {p : Place} {f : Bits} {q : Place} → There d p f q → at q ≡ at p + length f
there_at {d} {p} {f} {q} s = ap at s.ends ∙ at_place (at p + length f)

pub there_inside : {d : List ℕ} {p : Place} {f : Bits} {q : Place} → There d p f q → inside (length d) q ≡ true
there_inside {d} s = let g : Fits (length d) _ 0 = next_fits s.began in rw s.ends (fits_room g)

pub kept_there : {n : ℕ} {d d' : List ℕ} {p : Place} {f : Bits} {q : Place} → Kept n d d' → There d p f q → at q ≤ n → There d' p f q
kept_there {n} {d} {d'} {p} {f} {q} k s h =
    let e = there_at s in
    let x = kept_less {m = at p + length f} (omega arith) k in
    let y = kept_less {m = at p} (omega arith) k in
    record { began = rw k.same s.began; ends = s.ends; stand = x.bits ∙ s.stand ∙ ap (λ (l : Bits). l ++ f) (sym y.bits) }

-- two runs of bits
pub there_split : {d : List ℕ} {p : Place} (x y : Bits) {q : Place} → There d p (x ++ y) q → There d p x (place (at p + length x)) × There d (place (at p + length x)) y q
there_split {d} {p} x y {q} s =
    let m = at p + length x in
    let n = length-append x y in
    let b = s.began in
    let a = take (at p) (bits_of d) in
    let la : length a ≡ at p = length_before d (at p) (omega (arith, b.ends)) in
    let e : at p + length (x ++ y) ≡ m + length y = omega arith in
    let st : take (m + length y) (bits_of d) ≡ (a ++ x) ++ y = ap (λ (i : ℕ). take i (bits_of d)) (sym e) ∙ s.stand ∙ sym (append_assoc a x y) in
    let lx : length (a ++ x) ≡ m = length-append a x ∙ omega arith in
    let u : take m (bits_of d) ≡ a ++ x = sym (take-take m (m + length y) (bits_of d) (omega arith)) ∙ ap (take m) st ∙ take_at (a ++ x) y m lx in (
      record { began = record { bit = b.bit; ends = omega (arith, b.ends) }; ends = refl; stand = u },
      record {
        began = record { bit = omega arith; ends = rw at_place (omega (arith, b.ends)) };
        ends = s.ends ∙ ap place (e ∙ sym (ap (λ (i : ℕ). i + length y) (at_place m)));
        stand = rw at_place (st ∙ ap (λ (l : Bits). l ++ y) (sym u));
      },
    )

-- ---- values that are read back

module _ {A : Type 0} {f : Format A} {F : A → Type 0} (g : Good f F) where
  pub there_reads : {a : A} {d : List ℕ} {p q : Place} → F a → There d p (f.put (at p) a) q → Reads f d p a q
  there_reads {a} {d} {p} {q} h s =
      let b = f.put (at p) a in
      let l = drop (at p + length b) (bits_of d) in
      let fp = s.began in
      let n : at p + length (b ++ l) ≡ 8 * length d = ap (λ (w : Bits). at p + length w) (sym (stood_from s)) ∙ omega (arith, length-drop (at p) (bits_of d), length_bits d, fp.ends) in
      let e : Ends (at p) (b ++ l) = omega arith in
      record {
        reads = rw (rest_in d p fp, stood_from s, g.back (at p) a l h e, s.ends, rest_in d (place (at p + length b)) (next_fits fp), at_place (at p + length b));
      }

  -- what the format gives fits, and stands there
  pub gets_there : (d : List ℕ) (p : Place) {k : Bits} {a : A} {l : Bits} → rest d p ≡ Some k → f.get k ≡ Some (a, l) → F a × There d p (f.put (at p) a) (spot d l)
  gets_there d p {k} {a} {l} z h = by_room (inside (length d) p) refl
    where
      by_room : (t : Bool) → inside (length d) p ≡ t → F a × There d p (f.put (at p) a) (spot d l)
      by_room false e = never (sym (rest_out d p e) ∙ z)
      by_room true e =
          let fp = room_fits (length d) p 0 e in
          let w : Some (drop (at p) (bits_of d)) ≡ Some k = sym (rest_in d p fp) ∙ z in
          let u : drop (at p) (bits_of d) ≡ k = cc in
          let n = length_rest d (at p) in
          let r = g.exact (at p) (drop (at p) (bits_of d)) (a, l) (each_drop (at p) (bits_binary d)) (omega (arith, fp.ends)) (ap f.get u ∙ h) in
          let b = f.put (at p) a in
          let x : drop (at p) (bits_of d) ≡ b ++ l = r.0 in
          let m : length b + length l ≡ 8 * length d - at p = sym (length-append b l) ∙ ap length (sym x) ∙ n in
          let t = take (at p) (bits_of d) in
          let lt : length (t ++ b) ≡ at p + length b = length-append t b ∙ ap (λ (i : ℕ). i + length b) (length_before d (at p) (omega (arith, fp.ends))) in
          let y : bits_of d ≡ (t ++ b) ++ l = sym (take-append-drop (at p) (bits_of d)) ∙ ap (λ (w : Bits). t ++ w) x ∙ sym (append_assoc t b l) in
          let v : 8 * length d - length l ≡ at p + length b = omega (arith, fp.ends) in (
            r.1,
            record {
              began = record { bit = fp.bit; ends = omega (arith, fp.ends) };
              ends = ap place v;
              stand = ap (take (at p + length b)) y ∙ take_at (t ++ b) l (at p + length b) lt;
            },
          )

  pub reads_there : {a : A} {d : List ℕ} {p q : Place} → Reads f d p a q → inside (length d) q ≡ true → F a × There d p (f.put (at p) a) q
  reads_there {a} {d} {p} {q} h i = by_rest (rest d p) refl
    where
      fq : Fits (length d) q 0
      fq = room_fits (length d) q 0 i

      by_rest : (o : Option Bits) → rest d p ≡ o → F a × There d p (f.put (at p) a) q
      by_rest None z =
          let e : ◌≡◌ {A = Option (A × Bits)} None (Some (a, drop (at q) (bits_of d))) = ap (λ (o : Option Bits). o >>= f.get) (sym z) ∙ h.reads ∙ rw (rest_in d q fq) in
          never e
      by_rest (Some k) z =
          let e : ◌≡◌ {A = Option (A × Bits)} (f.get k) (Some (a, drop (at q) (bits_of d))) = ap (λ (o : Option Bits). o >>= f.get) (sym z) ∙ h.reads ∙ rw (rest_in d q fq) in
          rw (spot_at d q fq) at (gets_there d p z e)

  -- while the bits before its end stay
  pub reads_kept : {a : A} {n : ℕ} {d d' : List ℕ} {p r : Place} → Reads f d p a r → inside (length d) r ≡ true → at r ≤ n → Kept n d d' → Reads f d' p a r
  reads_kept h i le k = let (fits, s) = reads_there h i in there_reads fits (kept_there k s le)

-- bits that were put stand there
pub put_there : {A : Type 0} {f : Format A} {a : A} {d : List ℕ} {p : Place} {d' : List ℕ} {q : Place} → Puts f a d p d' q → inside (length d') q ≡ true → There d' p (f.put (at p) a) q
put_there {f = f} {a = a} {p = p} x h =
    let s = put_stood x h in
    record { began = rw x.step.same s.began; ends = s.ends; stand = s.stand ∙ ap (λ (l : Bits). l ++ f.put (at p) a) (sym (stood_before s)) }

-- what was put is read
pub put_reads : {A : Type 0} {f : Format A} {F : A → Type 0} {a : A} {d : List ℕ} {p : Place} {d' : List ℕ} {q : Place}
    → Good f F → F a → Puts f a d p d' q → inside (length d') q ≡ true → Reads f d' p a q
put_reads g h x i = there_reads g h (put_there x i)

-- what fills whole bytes ends at one
pub put_ends : {A : Type 0} {f : Format A} {a : A} {d : List ℕ} {p : Place} {d' : List ℕ} {q : Place} → Fills f → Puts f a d p d' q → inside (length d') q ≡ true → p.bit ≡ 0 → q.bit ≡ 0
put_ends {a = a} {p = p} fills x i b = ap (λ (r : Place). r.bit) (put_there x i).ends ∙ fills.ends (at p) a (omega arith)
