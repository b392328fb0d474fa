-- What the answers mean, and laws of what may be missing. Assumes nothing.
use Rattle.std.specs.Prelude.{ℕ, ◌≡◌, refl, Bool, not, ◌&&◌, [], ℤ, pos, negsuc}
use Rattle.std.proofs.Common.{sym, ap, ◌∙◌}
use Rattle.std.specs.Prelude.{Option, Some, None}
use Rattle.definition.specs.Base.{◌or◌, given, same}
use Rattle.definition.specs.Text.{Text}
use Rattle.definition.specs.Task.{not_below0}

-- a number, with what stands for one below 0 and for a missing one
unfoldable pub unsigned_or : ℕ → ℕ → Option ℤ → ℕ
unsigned_or below absent (Some (pos n)) = n
unsigned_or below absent (Some (negsuc n)) = below
unsigned_or below absent None = absent

pub unsigned_or_0 : (d : ℕ) (o : Option ℤ) → unsigned_or 0 d o ≡ not_below0 (o or pos d)
unfolding unsigned_or
unsigned_or_0 d None = refl
unsigned_or_0 d (Some (pos n)) = refl
unsigned_or_0 d (Some (negsuc n)) = refl

-- there is a text, and it is not v
abbrev pub other_text : Option Text → Text → Bool
other_text o v = given o && not (same (o or []) v)

-- an arm of a match on an answer: the answer is b, so what it means is what b means
pub arm : {A B M : Type 0} (means : M → Option A) (f : Option A → B) {a b : M} {o : Option A} {r : B} → means a ≡ o → a ≡ b → r ≡ f (means b) → r ≡ f o
arm means f h e k = k ∙ ap (λ a. f (means a)) (sym e) ∙ ap f h
