-- Places: where a field stands in a buffer, as a byte and a bit, so that no buffer is too long. Assumes nothing.
use Rattle.std.specs.Prelude.{◌≡◌, refl, Bool, true, false, ◌&&◌, ℕ, ◌+◌, ◌*◌, ◌/◌, ◌%◌, ◌≤◌, ◌<◌, leb, ltb}
use Rattle.std.proofs.Common.{arith, ltb-true, leb-true, leb-false, lt-ltb, le-leb}
use Rattle.std.proofs.lemmas.Bool.{lt-leb}
use Rattle.bits.specs.declared.Place.{Place}
use Rattle.laws.specs.Bools.{both}

-- how many bits stand before a place, and the place behind so many
abbrev pub at : Place → ℕ
at p = 8 * p.byte + p.bit

abbrev pub place : ℕ → Place
place n = record { byte = n / 8; bit = n % 8 }

-- the place of what does not fit: past every end
abbrev pub past : Place
past = record { byte = 0; bit = 8 }

-- whether n bytes have w bits from a place on
unfoldable pub room : ℕ → Place → ℕ → Bool
room n p w = ltb p.bit 8 && leb (at p + w) (8 * n)

abbrev pub inside : ℕ → Place → Bool
inside n p = room n p 0

-- whether a place is not behind another
unfoldable pub up_to : Place → Place → Bool
up_to p q = ltb p.bit 8 && leb (at p) (at q)

-- ---- laws

pub at_place : (n : ℕ) → at (place n) ≡ n
at_place n = omega arith

pub place_at_lem : (p : Place) {n : ℕ} → p.bit < 8 → at p ≡ n → p ≡ place n
place_at_lem p {n} h e =
    let b : p.byte ≡ n / 8 = omega arith in
    let r : p.bit ≡ n % 8 = omega arith in
    rw (← b, ← r)

pub record Fits (n : ℕ) (p : Place) (w : ℕ) : Type 0 where
  pub bit : p.bit < 8
  pub ends : at p + w ≤ 8 * n

pub room_fits : (n : ℕ) (p : Place) (w : ℕ) → room n p w ≡ true → Fits n p w
unfolding room
room_fits n p w h =
    let t = both (ltb p.bit 8) (leb (at p + w) (8 * n)) h in
    record { bit = ltb-true _ _ t.0; ends = leb-true _ _ t.1 }

pub fits_room : {n : ℕ} {p : Place} {w : ℕ} → Fits n p w → room n p w ≡ true
unfolding room
fits_room {n} {p} {w} h = rw (lt-ltb p.bit 8 h.bit, le-leb (at p + w) (8 * n) h.ends)

pub room_short : (n : ℕ) (p : Place) (w : ℕ) → (p.bit < 8 → 8 * n < at p + w) → room n p w ≡ false
unfolding room
room_short n p w h = short (ltb p.bit 8) refl
  where
    short : (t : Bool) → ltb p.bit 8 ≡ t → (t && leb (at p + w) (8 * n)) ≡ false
    short true e = lt-leb _ _ (h (ltb-true _ _ e))
    short false e = refl

pub room_none : (n : ℕ) (p : Place) (w : ℕ) → room n p w ≡ false → p.bit < 8 → 8 * n < at p + w
unfolding room
room_none n p w h b = leb-false _ _ (rw (lt-ltb p.bit 8 b) at h)

-- the place behind w bits that fit
pub next_fits : {n : ℕ} {p : Place} {w : ℕ} → Fits n p w → Fits n (place (at p + w)) 0
next_fits f = record { bit = omega arith; ends = omega (arith, f.ends) }

-- nor do more where fewer do not
pub room_more : (n : ℕ) (p : Place) (k w : ℕ) → k ≤ w → room n p k ≡ false → room n p w ≡ false
room_more n p k w h e = room_short n p w (λ b. omega (arith, room_none n p k e b))

pub record Before (p q : Place) : Type 0 where
  pub bit : p.bit < 8
  pub upto : at p ≤ at q

pub up_before : (p q : Place) → up_to p q ≡ true → Before p q
unfolding up_to
up_before p q h =
    let t = both (ltb p.bit 8) (leb (at p) (at q)) h in
    record { bit = ltb-true _ _ t.0; upto = leb-true _ _ t.1 }

pub before_up : {p q : Place} → Before p q → up_to p q ≡ true
unfolding up_to
before_up {p} {q} h = rw (lt-ltb p.bit 8 h.bit, le-leb (at p) (at q) h.upto)
