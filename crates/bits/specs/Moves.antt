-- Moving: runs of bits or bytes that change places, and bits that are written again. Assumes nothing.
use Rattle.std.specs.Prelude.{if◌then◌else◌, ◌≡◌, refl, Bool, true, false, ◌&&◌, List, ◌++◌, ℕ, ◌+◌, ◌-◌, ◌*◌, ◌≤◌, ◌<◌, length, take, drop}
use Rattle.std.proofs.Common.{sym, arith, take-take, length-take-le, drop-drop, take_at, drop_at}
use Rattle.definition.specs.Bits.{Bits, bits_of}
use Rattle.bits.specs.Places.{at, past, inside, up_to, room_fits, fits_room, up_before}
use Rattle.laws.specs.Bits.{length_bits}
use Rattle.bits.specs.Steps.{Step}
use Rattle.laws.specs.Buf.{◌▷◌}
use Rattle.bits.specs.declared.Place.{Place}
use Rattle.bits.specs.Over.{over}
use Rattle.std.proofs.lemmas.List.{take-append-le}
use Rattle.laws.specs.Bools.{differ}

-- ---- two neighbours change places

-- what stands from m to e goes before what stands from a to m
abbrev pub rotated : {A : Type 0} → ℕ → ℕ → ℕ → List A → List A
rotated a m e l = take a l ++ (take (e - m) (drop m l) ++ (take (m - a) (drop a l) ++ drop e l))

-- the bits from m to e before those from a to m, if these places are in order
abbrev pub ordered : ℕ → Place → Place → Place → Bool
ordered n a m e = inside n e && (up_to m e && up_to a m)

pub record Rotates (a m e : Place) (d d' : List ℕ) : Type 0 where
  pub same : length d' ≡ length d
  pub bits : bits_of d' ≡ if ordered (length d) a m e then rotated (at a) (at m) (at e) (bits_of d) else bits_of d

-- the parts by name
pub rotate_parts : {A : Type 0} (a m e : ℕ) (p x y z : List A) → length p ≡ a → a + length x ≡ m → m + length y ≡ e → rotated a m e (p ++ (x ++ (y ++ z))) ≡ p ++ (y ++ (x ++ z))
rotate_parts a m e p x y z ep ex ey =
    let l = p ++ (x ++ (y ++ z)) in
    let d1 : drop a l ≡ x ++ (y ++ z) = drop_at p (x ++ (y ++ z)) a ep in
    let ma : m ≡ a + length x = sym ex in
    let em : e ≡ m + length y = sym ey in
    let d2 : drop m l ≡ y ++ z = rw (ma, ← drop-drop (length x) a l, d1) (drop_at x (y ++ z) (length x) refl) in
    let d3 : drop e l ≡ z = rw (em, ← drop-drop (length y) m l, d2) (drop_at y z (length y) refl) in
    let ly : e - m ≡ length y = omega arith in
    let lx : m - a ≡ length x = omega arith in
    rw (take_at p (x ++ (y ++ z)) a ep, d1, d2, d3, ly, lx, take_at y z (length y) refl, take_at x (y ++ z) (length x) refl)

-- ---- a run of bits moves up

-- so many bits from one place laid over those at another
abbrev pub moved : ℕ → ℕ → ℕ → Bits → Bits
moved from to n l = over to (take n (drop from l)) l

-- ---- a rotation in parts

-- places in order
pub record Order (n : ℕ) (a m e : Place) : Type 0 where
  pub first : a.bit < 8
  pub middle : m.bit < 8
  pub last : e.bit < 8
  pub from : at a ≤ at m
  pub to : at m ≤ at e
  pub ends : at e ≤ 8 * n

pub order : (n : ℕ) (a m e : Place) → ordered n a m e ≡ true → Order n a m e
order n a m e h = order_if (inside n e) (up_to m e) refl refl h
  where
    order_if : (t o : Bool) → inside n e ≡ t → up_to m e ≡ o → (t && (o && up_to a m)) ≡ true → Order n a m e
    order_if false o et eo k = differ false k refl
    order_if true false et eo k = differ false k refl
    order_if true true et eo k =
        let x = room_fits n e 0 et in
        let y = up_before m e eo in
        let z = up_before a m k in
        record { first = z.bit; middle = y.bit; last = x.bit; from = z.upto; to = y.upto; ends = omega (arith, x.ends) }

-- what stands before the first place stays
rotate_before : (n a m e : ℕ) (l : Bits) → n ≤ a → a ≤ length l → take n (rotated a m e l) ≡ take n l
rotate_before n a m e l h le = rw (take-append-le n (take a l) _ (omega (arith, length-take-le a l le)), take-take n a l h)

pub rotates_kept : {a m e : Place} {d d' : List ℕ} → Rotates a m e d d' → (n : ℕ) → (inside (length d) e ≡ true → n ≤ at a) → take n (bits_of d') ≡ take n (bits_of d)
rotates_kept {a} {m} {e} {d} {d'} t n h = kept_if (ordered (length d) a m e) refl
  where
    kept_if : (o : Bool) → ordered (length d) a m e ≡ o → take n (bits_of d') ≡ take n (bits_of d)
    kept_if false k = let s : bits_of d' ≡ bits_of d = rw k at t.bits in rw s
    kept_if true k =
        let o = order (length d) a m e k in
        let s : bits_of d' ≡ rotated (at a) (at m) (at e) (bits_of d) = rw k at t.bits in
        let i = fits_room {n = length d} {p = e} {w = 0} (record { bit = o.last; ends = omega (arith, o.ends) }) in
        rw s (rotate_before n (at a) (at m) (at e) (bits_of d) (h i) (omega (arith, length_bits d, o.from, o.to, o.ends)))

-- ---- a run of bits written again

-- the bits from one place to another
abbrev pub bits_from : ℕ → ℕ → List ℕ → Bits
bits_from a e d = take (e - a) (drop a (bits_of d))

pub record Copies (from to : Place) (d : List ℕ) (p : Place) (d' : List ℕ) (q : Place) : Type 0 where
  pub copied : ordered (length d) from to p ≡ true → Step d p (λ b. b ▷ bits_from (at from) (at to) d) d' q
  pub refused : ordered (length d) from to p ≡ false → (d' ≡ d) × (q ≡ past)

pub copies : {from to : Place} {d : List ℕ} {p : Place} {d' : List ℕ} {q : Place} → ordered (length d) from to p ≡ true
    → Step d p (λ b. b ▷ bits_from (at from) (at to) d) d' q → Copies from to d p d' q
copies {from} {to} {d} {p} e s = record { copied = λ k. s; refused = λ k. differ (ordered (length d) from to p) e k }

pub copies_not : {from to : Place} {d : List ℕ} {p : Place} → ordered (length d) from to p ≡ false → Copies from to d p d past
copies_not {from} {to} {d} {p} e = record { copied = λ k. differ (ordered (length d) from to p) k e; refused = λ k. (refl, refl) }
