-- What a Task's custom fields hold changes no model: two accepted trees that differ only in the text of, or below, elements named ExtendedAttribute standing directly in a Task give the same
-- model, counts included. Where one of the two is refused nothing is claimed. Assumes nothing.
use Rattle.std.specs.Prelude.{if◌then◌else◌, ◌≡◌, ◌↔◌, ℕ, Bool, ◌&&◌}
use mathlib.Core.List.{List, [], ◌∷◌, ◌++◌}
use Rattle.definition.specs.Base.{same}
use Rattle.definition.specs.Ascii.{bytes}
use Rattle.definition.specs.Text.{Text}
use Rattle.definition.specs.Tree.{Rec, packed, Forest, nothing, one, Element}
use Rattle.definition.specs.Refusal.{tree_refusal, read_answer}
use Rattle.theorems.specs.Told.{root_of}
use Rattle.theorems.specs.SameButCustom.{is_custom, SameButCustom}

abbrev pub CustomFieldsChangeNoModel : Type 0
CustomFieldsChangeNoModel = (s t : Text) (room : ℕ) → tree_refusal s ≡ 0 → tree_refusal t ≡ 0 → SameButCustom (root_of s) (root_of t) → read_answer s room ≡ read_answer t room

-- ---- which elements are related: those that are the same once their custom fields are emptied

abbrev pub is_custom_in : Text → Text → Bool
is_custom_in parent n = same parent (bytes "Task") && is_custom n

-- what stands in an element of that name, its custom fields with no text and nothing below
abbrev pub emptied_below : Text → Forest → Forest
emptied_below parent nothing = nothing
emptied_below parent (one n t c rest) = one n (if is_custom_in parent n then [] else t) (if is_custom_in parent n then nothing else emptied_below n c) (emptied_below parent rest)

abbrev pub emptied : Element → Element
emptied e = record { name = e.name; text = e.text; below = emptied_below e.name e.below }

abbrev pub RelatedIsEmptied : Type 0
RelatedIsEmptied = (e f : Element) → SameButCustom e f ↔ (emptied e ≡ emptied f)

-- ---- examples

abbrev pub item : ℕ → Text → Text → List Rec
item depth name text = record { depth = depth; name = name; text = text } ∷ []

-- a plan with a Task of a name, and in it an ExtendedAttribute of a text, with what stands below that
abbrev pub plan_of : Text → Text → List Rec → Text
plan_of name text below =
    packed (item 1 (bytes "Project") [] ++ item 2 (bytes "Tasks") [] ++ item 3 (bytes "Task") [] ++ item 4 (bytes "UID") (bytes "1") ++ item 4 (bytes "Name") name ++ item 4 (bytes "ExtendedAttribute") text ++ below)

abbrev pub last_week : Text
last_week = plan_of (bytes "A") [] (item 5 (bytes "FieldID") (bytes "188743731") ++ item 5 (bytes "Value") (bytes "7"))

-- another text, and one child for two
abbrev pub this_week : Text
this_week = plan_of (bytes "A") (bytes "x") (item 5 (bytes "Value") (bytes "8"))

-- last week's, with another name of the Task itself
abbrev pub renamed : Text
renamed = plan_of (bytes "B") [] (item 5 (bytes "FieldID") (bytes "188743731") ++ item 5 (bytes "Value") (bytes "7"))

-- a number too long in the custom field, in an element that is a cost by its name
abbrev pub costly : Text
costly = plan_of (bytes "A") [] (item 5 (bytes "Cost") (bytes "1234567890123456"))

-- a plan with an ExtendedAttribute of a text directly in the Project
abbrev pub elsewhere : Text → Text
elsewhere text = packed (item 1 (bytes "Project") [] ++ item 2 (bytes "ExtendedAttribute") text)

pub record Examples : Type 0 where
  pub accepted : (tree_refusal last_week ≡ 0) × (tree_refusal this_week ≡ 0) × (tree_refusal renamed ≡ 0)
  pub related : SameButCustom (root_of last_week) (root_of this_week)
  pub differ : root_of last_week ≡ root_of this_week → ⊥
  pub same_answers : (room : ℕ) → read_answer last_week room ≡ read_answer this_week room
  pub unrelated : SameButCustom (root_of last_week) (root_of renamed) → ⊥
  pub unrelated_elsewhere : SameButCustom (root_of (elsewhere [])) (root_of (elsewhere (bytes "x"))) → ⊥
  -- related too, and refused
  pub refused : SameButCustom (root_of last_week) (root_of costly) × (tree_refusal costly ≡ 5)
