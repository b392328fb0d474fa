-- What was put stands there: it is taken back, what stood before it still does, and a count can be put in its place afterwards. Assumes nothing.
use Rattle.std.specs.Prelude.{◌≡◌, refl, Bool, true, false, List, [], ◌∷◌, ◌++◌, ℕ, ◌+◌, ◌*◌, length, take, drop}
use Rattle.std.proofs.Common.{sym, ap, ◌∙◌, append_assoc, arith, length-append, take-append-drop, take_at, drop_at}
use Rattle.definition.specs.Bits.{Bits, enc, dec, bits_of}
use Rattle.definition.specs.Format.{Format, field}
use Rattle.bits.specs.Over.{over, over_mid}
use Rattle.bits.specs.Places.{at, place, past, room, inside, Fits, room_fits, fits_room, place_at_lem, at_place, next_fits}
use Rattle.bits.specs.Steps.{view, Step, said, Puts, Laid, laid_in, view_in, view_out, ▷-fits, ▷-short, length_before, laid_kept}
use Rattle.laws.specs.Buf.{holds, full, ◌▷◌, size_of}
use Rattle.bits.specs.Reads.{rest, taken_at}
use Rattle.bits.specs.declared.Place.{Place}

-- bits were put and fitted: there was room, the place is behind them, and they stand there
pub record Stood (d : List ℕ) (p : Place) (f : Bits) (d' : List ℕ) (q : Place) : Type 0 where
  pub began : Fits (length d) p (length f)
  pub ends : q ≡ place (at p + length f)
  pub stand : take (at p + length f) (bits_of d') ≡ take (at p) (bits_of d) ++ f

module _ {d : List ℕ} {p : Place} (f : Bits) {d' : List ℕ} {q : Place} (s : Step d p (λ b. b ▷ f) d' q) where
  full_or : inside (length d') q ≡ true → room (length d) p (length f) ≡ false → ⊥
  full_or h e =
      let x : holds (8 * length d') (take (at q) (bits_of d')) ≡ full (8 * length d) = sym (view_in d' q (room_fits (length d') q 0 h)) ∙ s.bits ∙ ▷-short d p f e in
      let z : ◌≡◌ {A = ℕ} 0 1 = cc in
      omega arith

  began : inside (length d') q ≡ true → Fits (length d) p (length f)
  began h = began_if (room (length d) p (length f)) refl
    where
      began_if : (t : Bool) → room (length d) p (length f) ≡ t → Fits (length d) p (length f)
      began_if true e = room_fits (length d) p (length f) e
      began_if false e = absurd (full_or h e)

  pub stood : inside (length d') q ≡ true → Stood d p f d' q
  stood h =
      let b = began h in
      let i = room_fits (length d') q 0 h in
      let x : holds (8 * length d') (take (at q) (bits_of d')) ≡ holds (8 * length d) (take (at p) (bits_of d) ++ f) = sym (view_in d' q i) ∙ s.bits ∙ ▷-fits d p f b in
      let y : take (at q) (bits_of d') ≡ take (at p) (bits_of d) ++ f = cc in
      let lq = length_before d' (at q) (omega (arith, i.ends)) in
      let lp = length_before d (at p) (omega (arith, b.ends)) in
      let e : at q ≡ at p + length f = sym lq ∙ ap length y ∙ length-append (take (at p) (bits_of d)) f ∙ ap (λ (n : ℕ). n + length f) lp in
      record { began = b; ends = place_at_lem q i.bit e; stand = ap (λ (n : ℕ). take n (bits_of d')) (sym e) ∙ y }

  -- they did not fit
  pub overran : inside (length d') q ≡ false → room (length d) p (length f) ≡ false
  overran h = over_if (room (length d) p (length f)) refl
    where
      over_if : (t : Bool) → room (length d) p (length f) ≡ t → room (length d) p (length f) ≡ false
      over_if false e = e
      over_if true e =
          let x : full (8 * length d') ≡ holds (8 * length d) (take (at p) (bits_of d) ++ f) = sym (view_out d' q h) ∙ s.bits ∙ ▷-fits d p f (room_fits (length d) p (length f) e) in
          let z : ◌≡◌ {A = ℕ} 0 1 = cc in
          absurd (omega arith)

module _ {d : List ℕ} {p : Place} {f : Bits} {d' : List ℕ} {q : Place} (s : Stood d p f d' q) where
  -- all bits: those before, the new ones, the others
  pub stood_all : bits_of d' ≡ take (at p) (bits_of d) ++ (f ++ drop (at p + length f) (bits_of d'))
  stood_all = sym (take-append-drop (at p + length f) (bits_of d')) ∙ rw s.stand (append_assoc (take (at p) (bits_of d)) f _)

  -- what stood before still does
  pub stood_before : take (at p) (bits_of d') ≡ take (at p) (bits_of d)
  stood_before = ap (take (at p)) stood_all ∙ take_at (take (at p) (bits_of d)) _ (at p) (length_before d (at p) (omega (arith, s.began.ends)))

  -- and the bits from the place on begin with the new ones
  pub stood_from : drop (at p) (bits_of d') ≡ f ++ drop (at p + length f) (bits_of d')
  stood_from = ap (drop (at p)) stood_all ∙ drop_at (take (at p) (bits_of d)) _ (at p) (length_before d (at p) (omega (arith, s.began.ends)))

-- a value that was put: its bits stand there
pub put_stood : {A : Type 0} {f : Format A} {a : A} {d : List ℕ} {p : Place} {d' : List ℕ} {q : Place} → Puts f a d p d' q → inside (length d') q ≡ true → Stood d p (f.put (at p) a) d' q
put_stood {f = f} {a = a} {d = d} {p = p} {d' = d'} {q = q} x h =
    let n = size_of (view d p) in
    let s : Step d p (λ b. b ▷ f.put n a) d' q = said x.step _ refl in
    let b = (stood (f.put n a) s h).began in
    let e : n ≡ at p = ap size_of (view_in d p b) ∙ length_before d (at p) (omega (arith, b.ends)) in
    stood (f.put (at p) a) (said s _ (ap (λ (m : ℕ). view d p ▷ f.put m a) e)) h

-- bits of which the first were written anew
pub rewrote : {d : List ℕ} {p : Place} (f g : Bits) {d' : List ℕ} {q : Place} {f' : Bits} {d'' : List ℕ} {r : Place}
    → Step d p (λ b. b ▷ (f ++ g)) d' q → Laid d' p f' d'' r → length f' ≡ length f → Step d p (λ b. b ▷ (f' ++ g)) d'' q
rewrote {d} {p} f g {d'} {q} {f'} {d''} {r} s h e = record {
  same = h.same ∙ s.same;
  bits = anew (inside (length d') q) refl;
  kept = rw s.same at (laid_kept h) ∙ s.kept;
  onward = rw h.same s.onward;
}
  where
    lf : length (f' ++ g) ≡ length (f ++ g)
    lf = length-append f' g ∙ ap (λ (n : ℕ). n + length g) e ∙ sym (length-append f g)

    anew : (t : Bool) → inside (length d') q ≡ t → view d'' q ≡ view d p ▷ (f' ++ g)
    anew false k =
        let k'' : inside (length d'') q ≡ false = rw h.same k in
        let o : room (length d) p (length (f' ++ g)) ≡ false = rw lf (overran (f ++ g) s k) in
        view_out d'' q k'' ∙ rw (h.same, s.same) (sym (▷-short d p (f' ++ g) o))
    anew true k =
        let st = stood (f ++ g) s k in
        let b = st.began in
        let lb = length-append f g in
        let fp : Fits (length d') p (length f') = record { bit = b.bit; ends = omega (arith, b.ends, s.same) } in
        let fn : Fits (length d) p (length (f' ++ g)) = record { bit = b.bit; ends = omega (arith, b.ends, lf) } in
        let a = take (at p) (bits_of d) in
        let la : length a ≡ at p = length_before d (at p) (omega (arith, b.ends)) in
        let l = drop (at p + length (f ++ g)) (bits_of d') in
        let was : bits_of d' ≡ a ++ (f ++ (g ++ l)) = stood_all st ∙ ap (λ (w : Bits). a ++ w) (append_assoc f g l) in
        let is : bits_of d'' ≡ a ++ (f' ++ (g ++ l)) = laid_in h fp ∙ ap (over (at p) f') was ∙ over_mid (at p) a f (g ++ l) f' la (sym e) in
        let is' : bits_of d'' ≡ (a ++ (f' ++ g)) ++ l = is ∙ simp append_assoc in
        let n : length (a ++ (f' ++ g)) ≡ at p + length (f ++ g) = length-append a (f' ++ g) ∙ omega (arith, lf) in
        let up : take (at p + length (f ++ g)) (bits_of d'') ≡ a ++ (f' ++ g) = ap (take (at p + length (f ++ g))) is' ∙ take_at (a ++ (f' ++ g)) l (at p + length (f ++ g)) n in
        let fq : Fits (length d'') (place (at p + length (f ++ g))) 0 = rw (h.same, s.same) (next_fits b) in
        rw (st.ends, view_in d'' (place (at p + length (f ++ g))) fq, at_place (at p + length (f ++ g)), up, h.same, s.same) (sym (▷-fits d p (f' ++ g) fn))

-- 1010 0101 1100 0011: 11 bits from the fourth on, and what is left
example_take : taken_at (165 ∷ 195 ∷ []) record { byte = 0; bit = 3 } 11 ≡ record { value = 368; next = record { byte = 1; bit = 6 } }
unfolding taken_at rest room field bits_of enc dec
example_take = refl

example_cut : taken_at (165 ∷ 195 ∷ []) record { byte = 1; bit = 6 } 4 ≡ record { value = 0; next = past }
unfolding taken_at rest room field bits_of enc dec
example_cut = refl

-- behind what was put there is room only where there was before
pub put_inside : {A : Type 0} {f : Format A} {a : A} {d : List ℕ} {p : Place} {d' : List ℕ} {q : Place} → Puts f a d p d' q → inside (length d') q ≡ true → inside (length d) p ≡ true
put_inside x h = let b = (put_stood x h).began in fits_room (record { bit = b.bit; ends = omega (arith, b.ends) })
