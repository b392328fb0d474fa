-- One byte written, the decimal digits of a number, and the end of a text. Assumes nothing.
use Rattle.std.specs.Prelude.{if◌then◌else◌, Option, Some, None}
use Rattle.definition.specs.declared.Refusal.{Refusal}
use Rattle.definition.specs.declared.Refusal.TheVariants.{NoRoom}
use Rattle.std.specs.Prelude.{Result}
use Rattle.std.specs.Result.{IfOk}
use Rattle.std.specs.Option.{ok_or}
use Rattle.std.proofs.Common.{◌≡◌, ℕ, zero, suc, ◌+◌, ◌/◌, ◌%◌, ◌^◌, ◌<◌, ◌≤◌, Bool, true, false, ltb, leb, ◌⊎◌, ◌∷◌, ◌++◌, length, take, set, sym, refl, ap, ◌∙◌, subst, inl, inr, zero-lt-suc, div-lt_iff_lt-mul, pow-suc, add-one, arith, length-set, length-take-le, take-suc-set, le-ltb, lt-ltb, le-leb, []}
use borrow.Author.Tests.{lt-leb}
use Rattle.definition.specs.Text.{Text}
use Rattle.definition.specs.Duration.{decimal, decimal_up}
use Rattle.definition.specs.Time.{two_digits}
use Rattle.text.specs.Parts.{le_or_lt}
use Rattle.laws.specs.Buf.{holds, ◌▷◌, ▷-fits, ▷-over}
use Rattle.number.specs.Written.{Put, Gives, view, answer_of, answer_by}
use Rattle.definition.specs.Refusal.{Answer, refused, gives, in_room, ranged}

-- ---- one byte

pub put_one : (d : Text) (at b : ℕ) → at < length d → Put (b ∷ []) d at (set d at b) (Some (at + 1))
put_one d at b h =
    let same : length (set d at b) ≡ length d = length-set d at b in
    let more : take (at + 1) (set d at b) ≡ take at d ++ (b ∷ []) = rw add-one (take-suc-set d at b h) in
    let size : length (take at d) ≡ at = length-take-le at d (omega arith) in
    record { same = same; inside = omega (arith, same); bytes = rw (same, more) (sym (▷-fits (length d) (take at d) (b ∷ []) (omega arith))) }

pub put_past : (d : Text) (at b : ℕ) → at ≡ length d → Put (b ∷ []) d at d None
put_past d at b h =
    record { same = refl; inside = tt; bytes = sym (▷-over (length d) (take at d) (b ∷ []) (omega (arith, length-take-le at d (omega arith)))) }

pub put_as : {t u d d' : Text} {n : ℕ} {r : Option ℕ} → t ≡ u → Put t d n d' r → Put u d n d' r
put_as {d = d} {d' = d'} {n = n} {r = r} e p = subst (λ (l : Text). Put l d n d' r) e p

-- ---- digits
pub decimal_one : (n : ℕ) → n < 10 → (n % 10 + 48) ∷ [] ≡ decimal n
unfolding decimal_up
decimal_one n h =
    let e : n % 10 ≡ n = omega arith in
    ap (λ (k : ℕ). (k + 48) ∷ []) e ∙ sym (rw (lt-ltb n 10 h))

-- so many digits are enough
enough : (k n : ℕ) → n < 10 ^ suc k → decimal_up (suc k) n ≡ decimal_up (suc (suc k)) n
unfolding decimal_up
enough zero n h = let l : n < 10 = h in rw (lt-ltb n 10 l)
enough (suc k) n h = go (ltb n 10) (enough k (n / 10) ((div-lt_iff_lt-mul (zero-lt-suc 9)).1 (rw pow-suc at h)))
  where
    go : (t : Bool) → decimal_up (suc k) (n / 10) ≡ decimal_up (suc (suc k)) (n / 10)
        → (if t then (n + 48) ∷ [] else decimal_up (suc k) (n / 10) ++ ((n % 10 + 48) ∷ [])) ≡ (if t then (n + 48) ∷ [] else decimal_up (suc (suc k)) (n / 10) ++ ((n % 10 + 48) ∷ []))
    go true e = refl
    go false e = ap (λ (l : Text). l ++ ((n % 10 + 48) ∷ [])) e

pub decimal_more : (n : ℕ) → 10 ≤ n → n < 2 ^ 64 → decimal (n / 10) ++ ((n % 10 + 48) ∷ []) ≡ decimal n
unfolding decimal_up
decimal_more n h l =
    ap (λ (s : Text). s ++ ((n % 10 + 48) ∷ [])) (sym (enough 18 (n / 10) (omega arith))) ∙ sym (ap (λ (t : Bool). if t then (n + 48) ∷ [] else decimal_up 19 (n / 10) ++ ((n % 10 + 48) ∷ [])) (le-ltb n 10 h))

pub two_digits_lem : (n : ℕ) → n < 100 → (n / 10 % 10 + 48) ∷ (n % 10 + 48) ∷ [] ≡ two_digits n
two_digits_lem n h = let e : n / 10 % 10 ≡ n / 10 = omega arith in ap (λ (k : ℕ). (k + 48) ∷ (n % 10 + 48) ∷ []) e

-- ---- the end

-- a text put from the start on, and then ended
pub whole : (t d d' : Text) (r : Option ℕ) → Put t d 0 d' r → answer_of (view d' r) ≡ in_room (length d) t
unfolding in_room
whole t d d' r p = ap answer_of p.bytes ∙ by (le_or_lt (length t) (length d))
  where
    by : (length t ≤ length d) ⊎ (length d < length t) → answer_of (holds (length d) [] ▷ t) ≡ (if leb (length t) (length d) then gives t else refused 9)
    by (inl h) = rw (▷-fits (length d) [] t (omega arith), le-leb (length t) (length d) h)
    by (inr h) = rw (▷-over (length d) [] t (omega arith), lt-leb (length t) (length d) h)

-- a place where there is none left is a refusal
pub answer_same : (d : Text) (k : Option ℕ) → answer_by d (ok_or k NoRoom) ≡ answer_of (view d k)
answer_same d None = refl
answer_same d (Some n) = refl

pub place_inside : {t d d' : Text} {n : ℕ} (k : Option ℕ) → Put t d n d' k → {e : Result ℕ Refusal} → e ≡ ok_or k NoRoom → IfOk e (λ n. n ≤ length d')
place_inside None p h = rw h tt
place_inside (Some n) p h = rw h p.inside

module _ (most : ℕ) (named : ℕ → Text) (n : ℕ) (d : Text) where
  pub outside : {out : Text} {r : Result ℕ Refusal} → most < n → Gives (refused 8) (length d) r out → Gives (ranged most named n (length d)) (length d) r out
  unfolding ranged
  outside {out} {r} h g =
      subst (λ (t : Bool). Gives (if t then in_room (length d) (named n) else refused 8) (length d) r out) (sym (lt-leb n most h)) g

  pub inside : {d' out : Text} {k : Option ℕ} {e r : Result ℕ Refusal} → n ≤ most → Put (named n) d 0 d' k → e ≡ ok_or k NoRoom → Gives (answer_by d' e) (length d') r out
      → Gives (ranged most named n (length d)) (length d) r out
  unfolding ranged
  inside {d'} {out} {k} {e} {r} h p i g =
      let a : answer_by d' e ≡ (if leb n most then in_room (length d) (named n) else refused 8)
      = ap (λ (e : Result ℕ Refusal). answer_by d' e) i
      ∙ answer_same d' k
      ∙ whole (named n) d d' k p
      ∙ sym (ap (λ (t : Bool). if t then in_room (length d) (named n) else refused 8) (le-leb n most h)) in
      subst (λ (a : Answer). Gives a (length d) r out) a (subst (λ (room : ℕ). Gives (answer_by d' e) room r out) p.same g)
