-- The record of a row before those that stand before it: from a whole byte on, a record's bits are the same wherever it stands. Assumes nothing.
use Rattle.std.proofs.Common.{◌≡◌, ℕ, zero, suc, ◌+◌, ◌*◌, ◌%◌, Bool, true, false, List, ◌∷◌, ◌++◌, map, length, take, drop, sym, refl, ap, ◌∙◌, true≢false, append_assoc, append-nil, arith, length-append, take_at, []}
use mathlib.Core.List.{map-append}
use Rattle.std.specs.Prelude.{Some}
use Rattle.std.specs.Prelude.{slice_get}
use lib.ListN.{length-map}
use Rattle.definition.specs.Bits.{Bits, bits_of}
use Rattle.definition.specs.Format.{◌⊗◌, via, whole, times, put_all, text}
use Rattle.definition.specs.Model.{Calendar}
use Rattle.definition.specs.Pack.{calendar}
use Rattle.laws.specs.Buf.{Buf, full, ◌▷◌, size_of, ▷-full}
use Rattle.laws.specs.Each.{Each}
use Rattle.laws.specs.Evens.{even_all, even_whole, even_calendar}
use Rattle.laws.specs.Formats.{fills_whole}
use Rattle.laws.specs.FitRecords.{Short, FitsCalendarBy, CalendarParts}
pub use Rattle.bits.specs.Steps.{put_times}
use Rattle.bits.specs.Moves.{Rotates, rotated, rotate_parts, rotates_kept, ordered, order}
use Rattle.bits.specs.Places.{at, place, inside, room, Fits, room_fits, fits_room, at_place, next_fits, before_up}
use Rattle.bits.specs.Round.{overran, put_stood, stood_all}
use Rattle.bits.specs.Steps.{view, before, puts, Step, Puts, said, view_in, view_out, ▷-fits, ▷-short, length_before, before_in}
use Rattle.bits.specs.declared.Place.{Place}
use Rattle.model.specs.Parts.{calendar_parts, raw}
use Rattle.model.specs.declared.records.Kind.TheVariants.{Calendars}
use Rattle.pack.specs.declared.record.Records.{Records}
use Rattle.names.specs.Kept.{there_at, there_inside}
use Rattle.names.specs.Texts.{place_of_row}
use Rattle.names.specs.Records.{calendar_fields, plain_calendars, plain_calendars_lem, calendars_lie, Lies, lies_front}
use Rattle.calendars.specs.Built.{Stand, turned, Turns}

-- ---- records one after another, from a whole byte on

abbrev rec : Calendar → Bits
rec c = (whole calendar).put 0 c

abbrev recs : List Calendar → Bits
recs cs = put_all (whole calendar) 0 cs

recs_at : (n : ℕ) (cs : List Calendar) → n % 8 ≡ 0 → put_all (whole calendar) n cs ≡ recs cs
recs_at n cs h = even_all (even_whole even_calendar) n 0 cs (omega arith)

rec_ends : (c : Calendar) → length (rec c) % 8 ≡ 0
rec_ends c = omega (arith, (fills_whole calendar).ends 0 c (omega arith))

recs_one : (c : Calendar) → recs (c ∷ []) ≡ rec c
unfolding put_all
recs_one c = append-nil (rec c)

recs_cons : (c : Calendar) (cs : List Calendar) → recs (c ∷ cs) ≡ rec c ++ recs cs
unfolding put_all
recs_cons c cs = ap (λ (b : Bits). rec c ++ b) (recs_at (0 + length (rec c)) cs (omega (arith, rec_ends c)))

recs_both : (xs ys : List Calendar) → recs (xs ++ ys) ≡ recs xs ++ recs ys
unfolding put_all
recs_both [] ys = refl
recs_both (x ∷ xs) ys = recs_cons x (xs ++ ys) ∙ ap (λ (b : Bits). rec x ++ b) (recs_both xs ys) ∙ sym (append_assoc (rec x) (recs xs) (recs ys)) ∙ ap (λ (b : Bits). b ++ recs ys) (sym (recs_cons x xs))

-- the item of a row between the others
split_row : {A : Type 0} (l : List A) (k : ℕ) (x : A) → slice_get l k ≡ Some x → l ≡ take k l ++ (x ∷ drop (suc k) l)
split_row [] k x e = let z : ◌≡◌ {A = ℕ} 0 1 = cc in absurd (omega arith)
split_row {A} (y ∷ l) zero x e = let z : y ≡ x = cc in ap (λ (t : A). t ∷ l) z
split_row {A} (y ∷ l) (suc k) x e = ap (λ (t : List A). y ∷ t) (split_row l k x e)

front_length : {A : Type 0} (l : List A) (k : ℕ) (x : A) → slice_get l k ≡ Some x → length (take k l) ≡ k
front_length [] k x e = let z : ◌≡◌ {A = ℕ} 0 1 = cc in absurd (omega arith)
front_length (y ∷ l) zero x e = refl
front_length (y ∷ l) (suc k) x e = ap suc (front_length l k x e)

pub turned_length : (cs : List Calendar) (row : ℕ) (c : Calendar) → slice_get cs row ≡ Some c → length (turned cs row c) ≡ length cs
turned_length cs row c g =
    let a = ap length (split_row cs row c g) in
    let b = length-append (take row cs) (c ∷ drop (suc row) cs) in
    let e = length-append (take row cs) (drop (suc row) cs) in
    omega arith

-- ---- where the record of a row stands

-- a place inside, so many bits behind another
record Offset (d : List ℕ) (p : Place) (n : ℕ) (r : Place) : Type 0 where
  inner : inside (length d) r ≡ true
  is : at r ≡ at p + n

put_plain : (n : ℕ) (cs : List Calendar) → put_all plain_calendars n (map calendar_fields cs) ≡ put_all (whole calendar) n cs
unfolding put_all calendar_parts raw calendar text via whole ◌⊗◌
put_plain n [] = refl
put_plain n (c ∷ cs) = ap (λ (b : Bits). (whole calendar).put n c ++ b) (put_plain (n + length ((whole calendar).put n c)) cs)

module _ (k : ℕ) {cs : List Calendar} {d₀ : List ℕ} {p : Place} {d : List ℕ} {q : Place} (h : Puts (times k (whole calendar)) cs d₀ p d q) (i : inside (length d) q ≡ true) (fit : Each (FitsCalendarBy Short) cs)
    (begins : at p % 8 ≡ 0) where
  row_place : (us vs : List Calendar) → cs ≡ us ++ vs → Offset d p (length (recs us)) (place_of_row Calendars d p (length us))
  row_place us vs e =
      let all : Lies plain_calendars (CalendarParts Short) d p (map calendar_fields us ++ map calendar_fields vs) q = rw (e, map-append calendar_fields us vs) at (calendars_lie k h i fit) in
      let l = rw (length-map us calendar_fields) at (lies_front plain_calendars_lem (map calendar_fields us) (map calendar_fields vs) all).0 in
      let t = l.there in
      let n : length (put_all plain_calendars (at p) (map calendar_fields us)) ≡ length (recs us) = ap length (put_plain (at p) us ∙ recs_at (at p) us begins) in
      record { inner = there_inside t; is = there_at t ∙ ap (λ (n : ℕ). at p + n) n }

-- ---- the record of a row to the front

-- bits that stand behind those that stood before a place are a step
stand_step : {d₀ : List ℕ} {p : Place} (f rest : Bits) {d' : List ℕ} {q : Place} → Fits (length d₀) p (length f) → length d' ≡ length d₀ → bits_of d' ≡ take (at p) (bits_of d₀) ++ (f ++ rest)
    → q ≡ place (at p + length f) → Step d₀ p (λ b. b ▷ f) d' q
stand_step {d₀} {p} f rest {d'} {q} b same are ends =
    let a = take (at p) (bits_of d₀) in
    let la = length_before d₀ (at p) (omega (arith, b.ends)) in
    let fq : Fits (length d') (place (at p + length f)) 0 = rw same (next_fits b) in
    let n : length (a ++ f) ≡ at p + length f = length-append a f ∙ ap (λ (k : ℕ). k + length f) la in
    let up : take (at p + length f) (bits_of d') ≡ a ++ f = ap (take (at p + length f)) (are ∙ sym (append_assoc a f rest)) ∙ take_at (a ++ f) rest (at p + length f) n in
    let low : take (at p) (bits_of d') ≡ a = ap (take (at p)) are ∙ take_at a (f ++ rest) (at p) la in
    record {
      same = same;
      bits = rw (ends, view_in d' (place (at p + length f)) fq, at_place (at p + length f), up, same) (sym (▷-fits d₀ p f b));
      kept = rw (before_in (length d₀) p b) low;
      onward = rw (ends, before_in (length d₀) p b, before_in (length d') (place (at p + length f)) fq) (omega arith);
    }

module _ (cs : List Calendar) (row : ℕ) (c : Calendar) (g : slice_get cs row ≡ Some c) where
  abbrev front : Bits
  front = recs (take row cs)

  abbrev back : Bits
  back = recs (drop (suc row) cs)

  bits_old : (n : ℕ) → n % 8 ≡ 0 → put_all (whole calendar) n cs ≡ front ++ (rec c ++ back)
  bits_old n z =
      recs_at n cs z ∙ ap recs (split_row cs row c g) ∙ recs_both (take row cs) (c ∷ drop (suc row) cs) ∙ ap (λ (b : Bits). front ++ b) (recs_cons c (drop (suc row) cs))

  bits_new : (n : ℕ) → n % 8 ≡ 0 → put_all (whole calendar) n (turned cs row c) ≡ rec c ++ (front ++ back)
  bits_new n z =
      recs_at n (turned cs row c) z ∙ recs_cons c (take row cs ++ drop (suc row) cs) ∙ ap (λ (b : Bits). rec c ++ b) (recs_both (take row cs) (drop (suc row) cs))

  length_same : length (rec c ++ (front ++ back)) ≡ length (front ++ (rec c ++ back))
  length_same =
      let a = length-append (rec c) (front ++ back) in
      let b = length-append front back in
      let e = length-append front (rec c ++ back) in
      let f = length-append (rec c) back in
      omega arith

size_at : (d₀ : List ℕ) (p : Place) {w : ℕ} → Fits (length d₀) p w → size_of (view d₀ p) ≡ at p
size_at d₀ p f = ap size_of (view_in d₀ p f) ∙ length_before d₀ (at p) (omega (arith, f.ends))

module _ (k row : ℕ) {cs : List Calendar} {d₀ : List ℕ} {p : Place} {d : List ℕ} {q : Place} (h : Puts (times k (whole calendar)) cs d₀ p d q) (fit : Each (FitsCalendarBy Short) cs) (begins : p.bit % 8 ≡ 0)
    {c : Calendar} (g : slice_get cs row ≡ Some c) {d' : List ℕ} (t : Rotates p (place_of_row Calendars d p row) (place_of_row Calendars d p (suc row)) d d') where
  turned_in : inside (length d) q ≡ true → Puts (times k (whole calendar)) (turned cs row c) d₀ p d' q
  unfolding times
  turned_in i =
      let st = put_stood h i in
      let b = st.began in
      let whole_byte : at p % 8 ≡ 0 = omega arith in
      let old = bits_old cs row c g (at p) whole_byte in
      let new = bits_new cs row c g (at p) whole_byte in
      let same = h.step.same in
      let fp : Fits (length d) p 0 = record { bit = b.bit; ends = omega (arith, b.ends) } in
      let split = split_row cs row c g in
      let n1 = front_length cs row c g in
      let lm = rw n1 at (row_place k h i fit whole_byte (take row cs) (c ∷ drop (suc row) cs) split) in
      let n2 : length (take row cs ++ (c ∷ [])) ≡ suc row = length-append (take row cs) (c ∷ []) ∙ omega arith in
      let le = rw n2 at (row_place k h i fit whole_byte (take row cs ++ (c ∷ [])) (drop (suc row) cs) (split ∙ sym (append_assoc (take row cs) (c ∷ []) (drop (suc row) cs)))) in
      let a = take (at p) (bits_of d₀) in
      let la : length a ≡ at p = length_before d₀ (at p) (omega (arith, b.ends)) in
      let m = place_of_row Calendars d p row in
      let e = place_of_row Calendars d p (suc row) in
      let fm = room_fits (length d) m 0 lm.inner in
      let fe = room_fits (length d) e 0 le.inner in
      let le2 : length (recs (take row cs ++ (c ∷ []))) ≡ length (recs (take row cs)) + length (rec c) =
      ap length (recs_both (take row cs) (c ∷ []) ∙ ap (λ (b : Bits). recs (take row cs) ++ b) (recs_one c)) ∙ length-append (recs (take row cs)) (rec c) in
      let z = drop (at p + length (put_all (whole calendar) (at p) cs)) (bits_of d) in
      let all : bits_of d ≡ a ++ ((recs (take row cs)) ++ (rec c ++ ((recs (drop (suc row) cs)) ++ z))) =
      stood_all st ∙ ap (λ (w : Bits). a ++ (w ++ z)) old ∙ ap (λ (w : Bits). a ++ w) (append_assoc (recs (take row cs)) (rec c ++ (recs (drop (suc row) cs))) z ∙ ap (λ (w : Bits). (recs (take row cs)) ++ w) (append_assoc (rec c) (recs (drop (suc row) cs)) z)) in
      let up1 = before_up {p = p} {q = m} (record { bit = b.bit; upto = omega (arith, lm.is) }) in
      let up2 = before_up {p = m} {q = e} (record { bit = fm.bit; upto = omega (arith, lm.is, le.is, le2) }) in
      let o : ordered (length d) p m e ≡ true = rw (le.inner, up2, up1) in
      let rot : bits_of d' ≡ rotated (at p) (at m) (at e) (bits_of d) = rw o at t.bits in
      let is : bits_of d' ≡ a ++ (rec c ++ ((recs (take row cs)) ++ ((recs (drop (suc row) cs)) ++ z))) =
      rot ∙ ap (rotated (at p) (at m) (at e)) all ∙ rotate_parts (at p) (at m) (at e) a (recs (take row cs)) (rec c) ((recs (drop (suc row) cs)) ++ z) la (omega (arith, lm.is)) (omega (arith, lm.is, le.is, le2)) in
      let are : bits_of d' ≡ a ++ ((rec c ++ ((recs (take row cs)) ++ (recs (drop (suc row) cs)))) ++ z) = is ∙ ap (λ (w : Bits). a ++ w) (sym (append_assoc (rec c) ((recs (take row cs)) ++ (recs (drop (suc row) cs))) z ∙ ap (λ (w : Bits). rec c ++ w) (append_assoc (recs (take row cs)) (recs (drop (suc row) cs)) z))) in
      let ln : length (rec c ++ ((recs (take row cs)) ++ (recs (drop (suc row) cs)))) ≡ length (put_all (whole calendar) (at p) cs) = length_same cs row c g ∙ ap length (sym old) in
      let bn : Fits (length d₀) p (length (rec c ++ ((recs (take row cs)) ++ (recs (drop (suc row) cs))))) = record { bit = b.bit; ends = omega (arith, b.ends, ln) } in
      let s = stand_step (rec c ++ ((recs (take row cs)) ++ (recs (drop (suc row) cs)))) z bn (t.same ∙ same) are (st.ends ∙ ap (λ (n : ℕ). place (at p + n)) (sym ln)) in
      record { step = said s _ (ap (λ (w : Bits). view d₀ p ▷ w) (sym (ap (λ (n : ℕ). put_all (whole calendar) n (turned cs row c)) (size_at d₀ p b) ∙ new))) }

  turned_out : inside (length d) q ≡ false → Puts (times k (whole calendar)) (turned cs row c) d₀ p d' q
  unfolding times
  turned_out i =
      let same = t.same in
      let iq : inside (length d') q ≡ false = rw same i in
      record {
        step = record {
          same = same ∙ h.step.same;
          bits = view_out d' q iq ∙ rw (same, h.step.same) (sym (full_if (inside (length d₀) p) refl));
          kept = kept_if (inside (length d₀) p) refl ∙ h.step.kept;
          onward = rw same h.step.onward;
        };
      }
    where
      full_if : (b : Bool) → inside (length d₀) p ≡ b → puts (times k (whole calendar)) (turned cs row c) (view d₀ p) ≡ full (8 * length d₀)
      full_if false e = ap (λ (v : Buf). v ▷ put_all (whole calendar) (size_of (view d₀ p)) (turned cs row c)) (view_out d₀ p e) ∙ ▷-full (8 * length d₀) _
      full_if true e =
          let fp = room_fits (length d₀) p 0 e in
          let n = size_at d₀ p fp in
          let whole_byte : size_of (view d₀ p) % 8 ≡ 0 = omega arith in
          let old = bits_old cs row c g (size_of (view d₀ p)) whole_byte in
          let new = bits_new cs row c g (size_of (view d₀ p)) whole_byte in
          let r : room (length d₀) p (length (put_all (whole calendar) (size_of (view d₀ p)) cs)) ≡ false = overran (put_all (whole calendar) (size_of (view d₀ p)) cs) (said h.step _ refl) i in
          let l : length (put_all (whole calendar) (size_of (view d₀ p)) (turned cs row c)) ≡ length (put_all (whole calendar) (size_of (view d₀ p)) cs) = ap length new ∙ length_same cs row c g ∙ ap length (sym old) in
          ▷-short d₀ p (put_all (whole calendar) (size_of (view d₀ p)) (turned cs row c)) (rw l r)

      kept_if : (b : Bool) → inside (length d₀) p ≡ b → take (before (length d₀) p) (bits_of d') ≡ take (before (length d₀) p) (bits_of d)
      kept_if true e = let fp = room_fits (length d₀) p 0 e in rotates_kept t (before (length d₀) p) (λ z. omega (arith, before_in (length d₀) p fp))
      kept_if false e = by_order (ordered (length d) p (place_of_row Calendars d p row) (place_of_row Calendars d p (suc row))) refl
        where
          by_order : (o : Bool) → ordered (length d) p (place_of_row Calendars d p row) (place_of_row Calendars d p (suc row)) ≡ o → take (before (length d₀) p) (bits_of d') ≡ take (before (length d₀) p) (bits_of d)
          by_order false o = let z : bits_of d' ≡ bits_of d = rw o at t.bits in rw z
          by_order true o =
              let x = order (length d) p (place_of_row Calendars d p row) (place_of_row Calendars d p (suc row)) o in
              let s = h.step.same in
              let f : Fits (length d₀) p 0 = record { bit = x.first; ends = omega (arith, x.from, x.to, x.ends) } in
              absurd (true≢false (sym (fits_room f) ∙ e))

pub turns : (row : ℕ) (start : Place) {d d' : List ℕ} {m e : Place} → m ≡ place_of_row Calendars d start row → e ≡ place_of_row Calendars d start (row + 1) → Rotates start m e d d' → Turns row start d d'
turns row start {d} {d'} {m} {e} em ee t = record { turns = λ b d₀ cs c r few fit g s. stand b d₀ cs c r fit g s (inside (length d) r.next) refl }
  where
    t' : Rotates start (place_of_row Calendars d start row) (place_of_row Calendars d start (suc row)) d d'
    t' = let z : row + 1 ≡ suc row = omega arith in rw (em, ee, z) at t

    stand : start.bit % 8 ≡ 0 → (d₀ : List ℕ) (cs : List Calendar) (c : Calendar) (r : Records) → Each (FitsCalendarBy Short) cs → slice_get cs row ≡ Some c → Stand cs d₀ start d r → (t : Bool) → inside (length d) r.next ≡ t → Stand (turned cs row c) d₀ start d' r
    stand b d₀ cs c r fit g s true i = record { puts = put_times (length cs) (length (turned cs row c)) (whole calendar) (turned_in (length cs) row s.puts fit b g t' i); counts = s.counts ∙ sym (turned_length cs row c g) }
    stand b d₀ cs c r fit g s false i = record { puts = put_times (length cs) (length (turned cs row c)) (whole calendar) (turned_out (length cs) row s.puts fit b g t' i); counts = s.counts ∙ sym (turned_length cs row c g) }
