-- The parts of a time of day. Assumes nothing.
use Rattle.std.proofs.Common.{◌≡◌, ℕ, ◌+◌, ◌*◌, ◌<◌, ◌≤◌, sym, ap, ◌∙◌, le-ltb, lt-ltb, le-leb}
use Rattle.std.specs.Prelude.{Option, None}
use borrow.Author.Tests.{lt-leb}
use Rattle.std.specs.Bool.{then_some}
use Rattle.std.proofs.Common.{Bool, true, false, leb, refl}
use Rattle.definition.specs.Base.{◌or◌, when}
use Rattle.definition.specs.Ascii.{bytes}
use Rattle.definition.specs.Text.{Text, before, after, unsigned_of}
use Rattle.definition.specs.Time.{is_colon, time_parts}
use Rattle.number.specs.Time.{time_at, joined}

pub too_late : (h m : ℕ) → 24 < h → time_at h m ≡ None
unfolding time_at
too_late h m a = rw (lt-leb h 24 a)

pub too_many : (h m : ℕ) → h ≤ 24 → 60 ≤ m → time_at h m ≡ None
unfolding time_at
too_many h m a b = rw (le-leb h 24 a, le-ltb m 60 b)

pub timed : (h m : ℕ) → h ≤ 24 → m < 60 → then_some (leb (h * 60 + m) 1440) (h * 60 + m) ≡ time_at h m
unfolding time_at
timed h m a b = rw (le-leb h 24 a, lt-ltb m 60 b) (go (leb (h * 60 + m) 1440) (h * 60 + m))
  where
    go : (t : Bool) (n : ℕ) → then_some t n ≡ when t n
    go true n = refl
    go false n = refl

pub parts : (s head rest : Text) (hours minutes : Option ℕ) → before is_colon s ≡ head → (after is_colon s or bytes "0") ≡ rest
    → hours ≡ unsigned_of 16 head → minutes ≡ unsigned_of 16 (before is_colon rest) → joined hours minutes ≡ time_parts s
unfolding time_parts time_at
parts s head rest hours minutes a b e f =
    ap (λ (o : Option ℕ). joined o minutes) (e ∙ ap (λ (l : Text). unsigned_of 16 l) (sym a))
    ∙ ap (λ (o : Option ℕ). joined (unsigned_of 16 (before is_colon s)) o) (f ∙ ap (λ (l : Text). unsigned_of 16 (before is_colon l)) (sym b))
