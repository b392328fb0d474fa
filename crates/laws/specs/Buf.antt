-- A buffer that is written from the front: numbers (bits or bytes) are added while they fit, and once too many came it stays full. Assumes nothing.
use Rattle.std.specs.Prelude.{if◌then◌else◌, ◌≡◌, refl, Bool, true, false, List, ◌++◌, ℕ, ◌+◌, ◌≤◌, ◌<◌, leb, length}
use Rattle.std.proofs.Common.{append_assoc, add_assoc, arith, le-leb, leb-false, length-append}
use Rattle.std.proofs.lemmas.Bool.{lt-leb}

-- what was written so far, of at most so many numbers; or too many came
pub data Buf : Type 0 where
  holds : ℕ → List ℕ → Buf
  full : ℕ → Buf

infixl 20 ◌▷◌
-- more, if they fit
unfoldable pub ◌▷◌ : Buf → List ℕ → Buf
holds n b ▷ f = if leb (length b + length f) n then holds n (b ++ f) else full n
full n ▷ f = full n

abbrev pub size_of : Buf → ℕ
size_of (holds n b) = length b
size_of (full n) = 0

pub ▷-fits : (n : ℕ) (b f : List ℕ) → length b + length f ≤ n → holds n b ▷ f ≡ holds n (b ++ f)
unfolding ◌▷◌
▷-fits n b f h = rw (le-leb (length b + length f) n h)

pub ▷-over : (n : ℕ) (b f : List ℕ) → n < length b + length f → holds n b ▷ f ≡ full n
unfolding ◌▷◌
▷-over n b f h = rw (lt-leb (length b + length f) n h)

pub ▷-full : (n : ℕ) (f : List ℕ) → full n ▷ f ≡ full n
unfolding ◌▷◌
▷-full n f = refl

-- what goes by how many stand before it
pub ▷-size : (b : Buf) (f : List ℕ) (h : ℕ → List ℕ) → b ▷ f ▷ h (size_of (b ▷ f)) ≡ b ▷ (f ++ h (size_of b + length f))
unfolding ◌▷◌
▷-size (full n) f h = refl
▷-size (holds n p) f h = size_if (leb (length p + length f) n) refl
  where
    size_if : (t : Bool) → leb (length p + length f) n ≡ t
        → (if t then holds n (p ++ f) else full n) ▷ h (size_of (if t then holds n (p ++ f) else full n)) ≡ holds n p ▷ (f ++ h (length p + length f))
    size_if true e = rw (length-append p f, length-append f, append_assoc, add_assoc)
    size_if false e =
        let k : n < length p + length (f ++ h (length p + length f)) = omega (arith, leb-false (length p + length f) n e, length-append f (h (length p + length f))) in
        rw (lt-leb _ _ k)

-- one after another is both at once
pub ▷-▷ : (b : Buf) (f g : List ℕ) → b ▷ f ▷ g ≡ b ▷ (f ++ g)
▷-▷ b f g = ▷-size b f (λ n. g)
