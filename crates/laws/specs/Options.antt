-- Values that may be missing. Assumes nothing.
use Rattle.std.specs.Prelude.{◌≡◌, refl, Bool, true, false, List, [], ℕ}
use Rattle.std.specs.Prelude.{Option, Some, None, is_some, unwrap_or}
use Rattle.std.proofs.Common.{ap, sym, true≢false}
use Rattle.definition.specs.Base.{◌>>=◌, ◌or◌, when}

pub Some-injective : {A : Type 0} (a b : A) → Some a ≡ Some b → a ≡ b
Some-injective a b h = ap (λ o. unwrap_or o a) h

pub None-ne-Some : {A : Type 0} (a : A) → None ≡ Some a → ⊥
None-ne-Some a h = true≢false (sym (ap is_some h))

-- none is not some
pub never : {A C : Type 0} {a : A} → None ≡ Some a → C
never {a = a} h = absurd (None-ne-Some a h)

-- ---- one after another

pub bind_assoc : {A B C : Type 0} (o : Option A) (f : A → Option B) (g : B → Option C) → (o >>= f >>= g) ≡ (o >>= λ x. f x >>= g)
bind_assoc None f g = refl
bind_assoc (Some a) f g = refl

pub bind_ext : {A B : Type 0} (o : Option A) (f g : A → Option B) → ((a : A) → f a ≡ g a) → (o >>= f) ≡ (o >>= g)
bind_ext None f g e = refl
bind_ext (Some a) f g e = e a

pub bind_some : {A : Type 0} (o : Option A) → (o >>= λ x. Some x) ≡ o
bind_some None = refl
bind_some (Some a) = refl

-- where the empty text gives nothing, a missing text may be read as it
pub bind_or : {A : Type 0} (f : List ℕ → Option A) → f [] ≡ None → (o : Option (List ℕ)) → f (o or []) ≡ (o >>= f)
bind_or f e None = e
bind_or f e (Some t) = refl

-- ---- what is there

pub some_is : {A B : Type 0} (o : Option A) (f : A → Option B) (b : B) → (o >>= f) ≡ Some b → (a : A) × (o ≡ Some a) × (f a ≡ Some b)
some_is None f b h = never h
some_is (Some a) f b h = (a, refl, h)

pub when_is : {A : Type 0} (t : Bool) (a b : A) → when t a ≡ Some b → (t ≡ true) × (a ≡ b)
when_is true a b h = (refl, Some-injective a b h)
when_is false a b h = never h
