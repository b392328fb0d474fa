-- The figures of a duration text, piece by piece. Assumes nothing.
use Rattle.std.specs.Prelude.{if◌then◌else◌}
use Rattle.definition.specs.declared.Unread.{Unread}
use Rattle.definition.specs.declared.Unread.TheVariants.{Absent, Long}
use Rattle.std.specs.Prelude.{Err, Ok, Result}
use Rattle.std.proofs.Common.{◌≡◌, ℕ, suc, ◌+◌, ◌-◌, ◌<◌, ◌≤◌, Bool, true, false, eqb, [], ◌∷◌, ◌++◌, length, get_or, take, drop, sym, refl, ap, ◌∙◌, append_assoc, append-nil, add-one, arith, length-append, eq-eqb, ne_eqb}
use lib.Dec.{eqb-suc-suc, eqb_refl}
use lib.Ieee.{Float}
use Rattle.definition.specs.Base.{◌or◌, same}
use Rattle.definition.specs.Text.{Text, before, after}
use Rattle.definition.specs.Number.{Reading, zero_float}
use Rattle.definition.specs.Duration.{is_unit, is_d, is_t, set_unit, piece_of, ◌then◌, time_figures, days_of, day_figures, figures_of}
use Rattle.definition.specs.declared.Figures.{Figures}
use Rattle.std.specs.Prelude.{Some, None, position}
use Rattle.std.proofs.lemmas.List.Quantifiers.{position-Some}
use Rattle.number.specs.Tests.{is_true}
use Rattle.number.proofs.Parts.{place_found, place_missing, cut_length}
use Rattle.text.specs.Parts.{all_of}
use Rattle.text.specs.Cut.{before_take}
pub use Rattle.laws.specs.Durations.{Least, of_test, figures_least}

-- an error is handed on
pub err_then : {A B : Type 0} (e : Unread) (f : A → Reading B) → ◌≡◌ {A = Reading B} (Err e) (Err e then f)
err_then Absent f = refl
err_then Long f = refl

-- ---- one piece
onward : (s part : Text) (f : Figures) → length (before is_unit s) < length s
    → time_figures s part f
    ≡ (piece_of (part ++ before is_unit s) then λ x. time_figures (drop (suc (length (before is_unit s))) s) [] (set_unit (get_or s (length (before is_unit s)) 0) x f))
unfolding before time_figures
onward [] part f h = absurd (omega arith)
onward (b ∷ s) part f h = go (is_unit b) h (onward s (part ++ (b ∷ [])) f)
  where
    go : (t : Bool) → length (if t then [] else b ∷ before is_unit s) < suc (length s)
        → (length (before is_unit s) < length s → time_figures s (part ++ (b ∷ [])) f
        ≡ (piece_of ((part ++ (b ∷ [])) ++ before is_unit s) then λ x. time_figures (drop (suc (length (before is_unit s))) s) [] (set_unit (get_or s (length (before is_unit s)) 0) x f)))
        → (if t then (piece_of part then λ x. time_figures s [] (set_unit b x f)) else time_figures s (part ++ (b ∷ [])) f)
        ≡ (piece_of (part ++ (if t then [] else b ∷ before is_unit s)) then λ x. time_figures (drop (length (if t then [] else b ∷ before is_unit s)) s) [] (set_unit (get_or (b ∷ s) (length (if t then [] else b ∷ before is_unit s)) 0) x f))
    go true h e = rw append-nil
    go false h e = e (omega arith) ∙ rw append_assoc

stops : (s part : Text) (f : Figures) → length s ≤ length (before is_unit s) → 0 < length part + length s → time_figures s part f ≡ (Err Absent)
unfolding before time_figures
stops [] [] f h n = absurd (omega arith)
stops [] (p ∷ part) f h n = refl
stops (b ∷ s) part f h n = go (is_unit b) h (λ k. stops s (part ++ (b ∷ [])) f k (simp length-append (omega arith)))
  where
    go : (t : Bool) → suc (length s) ≤ length (if t then [] else b ∷ before is_unit s) → (length s ≤ length (before is_unit s) → time_figures s (part ++ (b ∷ [])) f ≡ (Err Absent))
        → (if t then (piece_of part then λ x. time_figures s [] (set_unit b x f)) else time_figures s (part ++ (b ∷ [])) f) ≡ (Err Absent)
    go true h e = absurd (omega arith)
    go false h e = e (omega arith)

-- what is left of a time part, whose first unit stands at u
module _ (s : Text) (u : ℕ) (f : Figures) (found : Some u ≡ position is_unit s) where
  pub unit_within : u < length s
  unit_within = (position-Some is_unit s u 0 (sym found)).0

  at_unit : u ≡ length (before is_unit s)
  at_unit = place_found is_unit s u found

  one_piece : time_figures s [] f ≡ (piece_of (take u s) then λ x. time_figures (take (length s - (u + 1)) (drop (u + 1) s)) [] (set_unit (get_or s u 0) x f))
  one_piece =
      let p : take u s ≡ before is_unit s = ap (λ (i : ℕ). take i s) at_unit ∙ sym (before_take is_unit s) in
      let n : suc (length (before is_unit s)) ≡ u + 1 = omega (arith, at_unit) in
      let d : drop (suc (length (before is_unit s))) s ≡ take (length s - (u + 1)) (drop (u + 1) s) = ap (λ (i : ℕ). drop i s) n ∙ sym (all_of (u + 1) s) in
      onward s [] f (omega (arith, at_unit, unit_within))
      ∙ ap (λ (q : Text). piece_of q then λ x. time_figures (drop (suc (length (before is_unit s))) s) [] (set_unit (get_or s (length (before is_unit s)) 0) x f)) (sym p)
      ∙ ap (λ (q : Text). piece_of (take u s) then λ x. time_figures q [] (set_unit (get_or s (length (before is_unit s)) 0) x f)) d
      ∙ ap (λ (i : ℕ). piece_of (take u s) then λ x. time_figures (take (length s - (u + 1)) (drop (u + 1) s)) [] (set_unit (get_or s i 0) x f)) (sym at_unit)

  -- what reading the piece gives decides
  pub read : (a : Result Float Unread) {b : Result Float Unread} → a ≡ piece_of (take u s) → a ≡ b
      → (b then λ x. time_figures (take (length s - (u + 1)) (drop (u + 1) s)) [] (set_unit (get_or s u 0) x f)) ≡ time_figures s [] f
  read a {b} e g =
      ap (λ (n : Result Float Unread). n then λ x. time_figures (take (length s - (u + 1)) (drop (u + 1) s)) [] (set_unit (get_or s u 0) x f)) (sym g ∙ e)
      ∙ sym one_piece

pub no_unit : (s : Text) (f : Figures) → (length s ≡ 0 → ⊥) → None ≡ position is_unit s → time_figures s [] f ≡ (Err Absent)
no_unit s f h none = stops s [] f (omega (arith, place_missing is_unit s none)) (omega arith)

-- ---- the unit
pub set_h : (unit : ℕ) (x : Float) (f : Figures) → unit ≡ 72
    → set_unit unit x f ≡ record { days = f.days; hours = x; minutes = f.minutes; seconds = f.seconds }
unfolding set_unit
set_h unit x f e = rw (eq-eqb 72 unit (sym e))

pub set_m : (unit : ℕ) (x : Float) (f : Figures) → (unit ≡ 72 → ⊥) → unit ≡ 77
    → set_unit unit x f ≡ record { days = f.days; hours = f.hours; minutes = x; seconds = f.seconds }
unfolding set_unit
set_m unit x f n e = rw (ne_eqb 72 unit (λ (k : 72 ≡ unit). n (sym k)), eq-eqb 77 unit (sym e))

pub set_s : (unit : ℕ) (x : Float) (f : Figures) → (unit ≡ 72 → ⊥) → (unit ≡ 77 → ⊥)
    → set_unit unit x f ≡ record { days = f.days; hours = f.hours; minutes = f.minutes; seconds = x }
unfolding set_unit
set_s unit x f n m = rw (ne_eqb 72 unit (λ (k : 72 ≡ unit). n (sym k)), ne_eqb 77 unit (λ (k : 77 ≡ unit). m (sym k)))

-- ---- the days
last_d : (s : Text) → same (before is_d s ++ (68 ∷ [])) s ≡ eqb (length (before is_d s) + 1) (length s)
unfolding before same
last_d [] = refl
last_d (b ∷ s) = go (is_d b) refl (last_d s)
  where
    only : (s : Text) → same [] s ≡ eqb (0 + 1) (suc (length s))
    only [] = refl
    only (x ∷ s) = sym (ne_eqb (0 + 1) (suc (suc (length s))) (λ (e : 0 + 1 ≡ suc (suc (length s))). omega arith))

    more : (n m : ℕ) → eqb (n + 1) m ≡ eqb (suc n + 1) (suc m)
    more n m = rw (add-one n, add-one (suc n), eqb-suc-suc)

    go : (t : Bool) → is_d b ≡ t → same (before is_d s ++ (68 ∷ [])) s ≡ eqb (length (before is_d s) + 1) (length s)
        → same ((if t then [] else b ∷ before is_d s) ++ (68 ∷ [])) (b ∷ s) ≡ eqb (length (if t then [] else b ∷ before is_d s) + 1) (suc (length s))
    go true e h = rw e (only s)
    go false e h = rw (is_true (eqb b b) (eqb_refl b)) (h ∙ more (length (before is_d s)) (length s))

pub no_days : (s : Text) → length s ≡ 0 → days_of s ≡ Ok zero_float
unfolding days_of
no_days [] h = refl
no_days (b ∷ s) h = absurd (omega arith)

days_by_lem : (s : Text) → (length s ≡ 0 → ⊥) → days_of s ≡ (if eqb (length (before is_d s) + 1) (length s) then piece_of (before is_d s) else (Err Absent))
unfolding days_of
days_by_lem [] h = absurd (h refl)
days_by_lem (b ∷ s) h = ap (λ (t : Bool). if t then piece_of (before is_d (b ∷ s)) else (Err Absent)) (last_d (b ∷ s))

pub some_days : (s days rest : Text) → (length s ≡ 0 → ⊥) → before is_d s ≡ days → after is_d s ≡ Some rest → length rest ≡ 0 → piece_of days ≡ days_of s
some_days s days rest n e a h =
    ap piece_of (sym e)
    ∙ sym (days_by_lem s n ∙ ap (λ (t : Bool). if t then piece_of (before is_d s) else (Err Absent)) (eq-eqb (length (before is_d s) + 1) (length s) (omega (arith, cut_length is_d s rest a))))

pub bad_days : (s : Text) → (length s ≡ 0 → ⊥) → (length (before is_d s) + 1 ≡ length s → ⊥) → (Err Absent) ≡ days_of s
bad_days s n h = sym (days_by_lem s n ∙ ap (λ (t : Bool). if t then piece_of (before is_d s) else (Err Absent)) (ne_eqb (length (before is_d s) + 1) (length s) h))

-- ---- the whole
pub no_figures : (s : Text) → length s ≡ 0 → figures_of s ≡ (Err Absent)
unfolding figures_of
no_figures [] h = refl
no_figures (b ∷ s) h = absurd (omega arith)

pub not_p : (s : Text) → (length s ≡ 0 → ⊥) → (get_or s 0 0 ≡ 80 → ⊥) → figures_of s ≡ (Err Absent)
unfolding figures_of
not_p [] h n = absurd (h refl)
not_p (b ∷ s) h n = rw (ne_eqb b 80 n)

figures_p : (s : Text) → (length s ≡ 0 → ⊥) → get_or s 0 0 ≡ 80
    → figures_of s ≡ (days_of (before is_t (drop 1 s)) then λ d. time_figures (after is_t (drop 1 s) or []) [] (day_figures d))
unfolding figures_of
figures_p [] h e = absurd (h refl)
figures_p (b ∷ s) h e = rw (eq-eqb b 80 e)

pub some_figures : (s rest days time : Text) → (length s ≡ 0 → ⊥) → get_or s 0 0 ≡ 80 → rest ≡ drop 1 s → before is_t rest ≡ days → (after is_t rest or []) ≡ time
    → (days_of days then λ d. time_figures time [] (day_figures d)) ≡ figures_of s
some_figures s rest days time n e r a b =
    let d : days ≡ before is_t (drop 1 s) = sym a ∙ ap (λ (l : Text). before is_t l) r in
    let t : time ≡ (after is_t (drop 1 s) or []) = sym b ∙ ap (λ (l : Text). after is_t l or []) r in
    ap (λ (l : Text). days_of l then λ d. time_figures time [] (day_figures d)) d
    ∙ ap (λ (l : Text). days_of (before is_t (drop 1 s)) then λ d. time_figures l [] (day_figures d)) t
    ∙ sym (figures_p s n e)

-- ---- all is read
pub all_read : (s : Text) (f : Figures) → length s ≡ 0 → time_figures s [] f ≡ Ok f
unfolding time_figures
all_read [] f h = refl
all_read (b ∷ s) f h = absurd (omega arith)
