-- Walks over elements: what an answer stands for, how much is left behind it, and what an iterator has left. Assumes nothing: these are definitions.
use Rattle.std.specs.Prelude.{if◌then◌else◌, ◌≡◌, ℕ, suc, ◌+◌, ◌-◌, ◌<◌, ◌≤◌, Bool, not, ◌&&◌, List, [], ◌∷◌, ◌++◌, length, take}
use Rattle.std.specs.Prelude.{None, Option, Some, MatchOption}
use Rattle.definition.specs.Base.{given, keep}
use Rattle.definition.specs.Ascii.{bytes}
use Rattle.definition.specs.Text.{Text}
use Rattle.definition.specs.Tree.{Element}
use Rattle.definition.specs.Task.{is_kept, kept_tasks}
use Rattle.definition.specs.Resource.{is_resource, is_cost}
use Rattle.definition.specs.Calendar.{base_of, calendar_elements}
use Rattle.tree.specs.Place.{meaning, later, list_of, Within, Past}
use Rattle.tree.specs.Root.{root_at}
use Rattle.tree.specs.declared.element.Element.{Element as Place}
use Rattle.rows.specs.Rows.{in_order}
use Rattle.rows.specs.declared.kept.KeptTasks.{KeptTasks}
use Rattle.rows.specs.declared.built.CalendarsInOrder.{CalendarsInOrder}

-- a step of an iterator over elements: it gives the first of those that it has left; and if it is of a tree, so is what it gives, with a position in it
abbrev pub Gives : {S : Type 0} → (S → Text → Type 0) → (S → List Element) → S → Option Place → S → Type 0
Gives of left s r t = MatchOption r ((left s ≡ []) × (left t ≡ [])) (λ x. (left s ≡ meaning x ∷ left t) × ((u : Text) → of s u → Within u 0 x × of t u))

-- how far it is to the end
unfoldable pub ahead : Option Place → ℕ
ahead None = 0
ahead (Some x) = suc (length x.tree.now - x.at)

-- ---- the kept tasks

-- none, or one and those among so many later ones
unfoldable pub kept_by : Option (Place × ℕ) → List Element
kept_by None = []
kept_by (Some (x, left)) = meaning x ∷ keep is_kept (take left (later (bytes "Task") x))

abbrev pub place_in : Option (Place × ℕ) → Option Place
place_in None = None
place_in (Some (x, left)) = Some x

-- at most so many
unfoldable pub room : Option (Place × ℕ) → ℕ
room None = 0
room (Some (x, left)) = suc left

-- r stands for those that are kept of the first so many, from where a list of tasks starts
pub record KeptFrom (start : Option Place) (most : ℕ) (r : Option (Place × ℕ)) : Type 0 where
  pub is : keep is_kept (take most (list_of (bytes "Task") start)) ≡ kept_by r
  pub there : (s : Text) → Past s 0 start → Past s 0 (place_in r)
  pub few : room r ≤ most

-- those behind the last one given, of so many after it, all where none was
unfoldable pub kept_after : Element → Option (Place × ℕ) → List Element
kept_after root None = kept_tasks root
kept_after root (Some (x, left)) = keep is_kept (take left (later (bytes "Task") x))

abbrev pub kept_left : KeptTasks → List Element
kept_left k = kept_after (root_at k.root) k.last

-- of a tree
abbrev pub KeptOf : KeptTasks → Text → Type 0
KeptOf k s = (k.root.tree.now ≡ s) × Past s 0 (place_in k.last)

-- ---- elements that pass a test

-- work and cost resources
unfoldable pub is_work : Element → Bool
is_work r = is_resource r && not (is_cost r)

unfoldable pub is_cost_resource : Element → Bool
is_cost_resource r = is_resource r && is_cost r

-- calendars without a base and over one
unfoldable pub is_plain : Element → Bool
is_plain e = not (given (base_of e))

unfoldable pub is_derived : Element → Bool
is_derived e = given (base_of e)

-- none, or one and its later siblings that pass
unfoldable pub picked_by : Text → (Element → Bool) → Option Place → List Element
picked_by n w None = []
picked_by n w (Some x) = meaning x ∷ keep w (later n x)

-- r stands for those of l that pass, from a position on
pub record Picks (s n : Text) (w : Element → Bool) (l : List Element) (from : ℕ) (r : Option Place) : Type 0 where
  pub is : keep w l ≡ picked_by n w r
  pub there : Past s from r

-- from where a list of elements starts
pub record PicksFrom (n : Text) (w : Element → Bool) (start r : Option Place) : Type 0 where
  pub is : keep w (list_of n start) ≡ picked_by n w r
  pub there : (s : Text) (from : ℕ) → Past s from start → Past s from r

-- ---- the calendars in the order in which they are built

-- those that follow one
unfoldable pub later_in_order : Element → Place → List Element
later_in_order root x =
    if given (base_of (meaning x)) then keep is_derived (later (bytes "Calendar") x) else
    keep is_plain (later (bytes "Calendar") x) ++ keep is_derived (calendar_elements root)

-- none, or one and those that follow it
unfoldable pub order_by : Element → Option Place → List Element
order_by root None = []
order_by root (Some x) = meaning x ∷ later_in_order root x

-- at most so many, in a tree s: those over one that stand behind an element over one; behind another, all that are over one too
unfoldable pub order_room : Text → Option Place → ℕ
order_room s None = 0
order_room s (Some x) = if given (base_of (meaning x)) then suc (length x.tree.now - x.at) else suc (length s + (length x.tree.now - x.at))

-- after those without a base
pub record OrdersAfter (s : Text) (root : Element) (plain r : Option Place) : Type 0 where
  pub is : (l : List Element) → keep is_plain l ≡ picked_by (bytes "Calendar") is_plain plain → keep is_plain l ++ keep is_derived (calendar_elements root) ≡ order_by root r
  pub there : Past s 0 plain → Past s 0 r
  pub few : (u : Text) (from : ℕ) → Past u from plain → order_room s r < suc (length s + (suc (length u) - from))

-- those behind the last one given, all where none was
unfoldable pub order_after : Element → Option Place → List Element
order_after root None = in_order root
order_after root (Some x) = later_in_order root x

abbrev pub calendars_left : CalendarsInOrder → List Element
calendars_left c = order_after (root_at c.root) c.last

-- of a tree
abbrev pub CalendarsOf : CalendarsInOrder → Text → Type 0
CalendarsOf c s = (c.root.tree.now ≡ s) × Past s 0 c.last
