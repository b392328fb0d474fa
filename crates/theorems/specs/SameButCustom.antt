-- Elements that differ in custom fields alone: in what ExtendedAttribute elements hold that stand directly in a Task. Those of resources and assignments, and the
-- Project's own, which define the columns, are no part of it. Assumes nothing.
use Rattle.std.specs.Prelude.{◌≡◌, Bool, true, List, [], ◌∷◌}
use Rattle.definition.specs.Base.{same}
use Rattle.definition.specs.Ascii.{bytes}
use Rattle.definition.specs.Text.{Text}
use Rattle.definition.specs.Tree.{Element, elements}

-- the name of a custom field
abbrev pub is_custom : Text → Bool
is_custom n = same n (bytes "ExtendedAttribute")

mutual
  -- the same name, the same text, and children that are related
  pub data SameButCustom : Element → Element → Type 0 where
    same_but : {e f : Element} → e.name ≡ f.name → e.text ≡ f.text → SameChildren e.name (elements e.below) (elements f.below) → SameButCustom e f

  -- the children of two elements of one name, as many, in order: each two are related, or both are custom fields directly in a Task, whose text and all below may be anything
  pub data SameChildren : Text → List Element → List Element → Type 0 where
    empty : {parent : Text} → SameChildren parent [] []
    next : {parent : Text} {e f : Element} {es fs : List Element} → SameButCustom e f → SameChildren parent es fs → SameChildren parent (e ∷ es) (f ∷ fs)
    custom : {parent : Text} {e f : Element} {es fs : List Element} → parent ≡ bytes "Task" → is_custom e.name ≡ true → is_custom f.name ≡ true → SameChildren parent es fs → SameChildren parent (e ∷ es) (f ∷ fs)
