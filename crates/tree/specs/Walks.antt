-- What the walks over heads and over siblings have left, and what a step of the latter gives. Assumes nothing: these are definitions.
use Rattle.std.specs.Prelude.{◌≡◌, ◌<◌, List, [], ◌∷◌, Option, MatchOption}
use denote.Ref.{Bor}
use Rattle.definition.specs.Text.{Text}
use Rattle.definition.specs.Tree.{Rec, Element, elements, level}
use Rattle.tree.specs.Place.{records_at, meaning, siblings, Within}
use Rattle.tree.specs.declared.Heads.{Heads}
use Rattle.tree.specs.declared.Siblings.{Siblings}
use Rattle.tree.specs.declared.element.Element.{Element as Place}

-- the records that are left
abbrev pub heads_left : Heads → List Rec
heads_left h = records_at h.tree.now h.at

-- the elements that are left
abbrev pub siblings_left : Siblings → List Element
siblings_left s = elements (level s.depth (records_at s.tree.now s.at))

-- a step gave x with its name, and left its later siblings
pub record GivesSibling (s : Siblings) (x : Place) (n : Bor Text) (t : Siblings) : Type 0 where
  pub first : siblings_left s ≡ meaning x ∷ siblings_left t
  pub name : n.now ≡ (meaning x).name
  pub later : siblings_left t ≡ elements (siblings (records_at x.tree.now x.at))
  pub on : Within s.tree.now s.at x
  pub tree : t.tree.now ≡ s.tree.now
  pub after : x.at < t.at

abbrev pub GivesSiblings : Siblings → Option (Place × Bor Text) → Siblings → Type 0
GivesSiblings s r t = MatchOption r ((siblings_left s ≡ []) × (siblings_left t ≡ [])) (λ x. GivesSibling s x.0 x.1 t)
