-- The small words in which the other files are written. Assumes nothing.
use Rattle.std.specs.Prelude.{if◌then◌else◌, ℕ, zero, suc, Bool, true, false, ◌&&◌, ◌||◌, List, [], ◌∷◌, leb, eqb}
use Rattle.std.specs.Prelude.{Option, Some, None}

-- lo ≤ n ≤ hi
abbrev pub within : ℕ → ℕ → ℕ → Bool
within lo hi n = leb lo n && leb n hi

-- ---- what may be missing

infixl 12 ◌>>=◌
abbrev pub ◌>>=◌ : {A B : Type 0} → Option A → (A → Option B) → Option B
None >>= f = None
Some a >>= f = f a

infixl 14 ◌or◌
-- the value, or what stands for a missing one
abbrev pub ◌or◌ : {A : Type 0} → Option A → A → A
None or d = d
Some a or d = a

-- the first that is there
infixl 14 ◌or_else◌
abbrev pub ◌or_else◌ : {A : Type 0} → Option A → Option A → Option A
None or_else o = o
Some a or_else o = Some a

abbrev pub given : {A : Type 0} → Option A → Bool
given None = false
given (Some a) = true

-- a where the test holds
abbrev pub when : {A : Type 0} → Bool → A → Option A
when true a = Some a
when false a = None

-- ---- lists

unfoldable pub keep : {A : Type 0} → (A → Bool) → List A → List A
keep p [] = []
keep p (x ∷ xs) = if p x then x ∷ keep p xs else keep p xs

unfoldable pub first : {A : Type 0} → List A → Option A
first [] = None
first (x ∷ xs) = Some x

-- the first of a list that passes a test, and the last
abbrev pub find : {A : Type 0} → (A → Bool) → List A → Option A
find p l = first (keep p l)

unfoldable pub find_last : {A : Type 0} → (A → Bool) → List A → Option A
find_last p [] = None
find_last p (x ∷ xs) = find_last p xs or_else when (p x) x

unfoldable pub some? : {A : Type 0} → (A → Bool) → List A → Bool
some? p [] = false
some? p (x ∷ xs) = p x || some? p xs

unfoldable pub every? : {A : Type 0} → (A → Bool) → List A → Bool
every? p [] = true
every? p (x ∷ xs) = p x && every? p xs

-- the values that are there
unfoldable pub present : {A : Type 0} → List (Option A) → List A
present [] = []
present (None ∷ xs) = present xs
present (Some x ∷ xs) = x ∷ present xs

-- n numbers from a number on
unfoldable pub count : ℕ → ℕ → List ℕ
count from zero = []
count from (suc n) = from ∷ count (suc from) n

-- each with its row, from a row on
unfoldable pub numbered : {A : Type 0} → ℕ → List A → List (ℕ × A)
numbered n [] = []
numbered n (x ∷ xs) = (n, x) ∷ numbered (suc n) xs

-- the same bytes
unfoldable pub same : List ℕ → List ℕ → Bool
same [] [] = true
same [] (y ∷ ys) = false
same (x ∷ xs) [] = false
same (x ∷ xs) (y ∷ ys) = eqb x y && same xs ys
