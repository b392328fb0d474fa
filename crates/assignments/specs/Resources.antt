-- The work resources, with their ids in tables in lent words where these fit. Assumes nothing: these are definitions.
use Rattle.std.specs.Prelude.{◌≡◌, ℕ, ◌+◌, ◌^◌, ◌<◌, ◌≤◌, true, List, [], ◌∷◌, length}
use Rattle.tree.specs.Root.{root_at}
use Rattle.names.specs.declared.ids.Ids.{Ids}
use Rattle.std.specs.Prelude.{Option}
use Rattle.definition.specs.Base.{◌or◌, ◌or_else◌}
use Rattle.definition.specs.Text.{Text}
use Rattle.definition.specs.Tree.{Element}
use Rattle.definition.specs.Field.{text_in}
use Rattle.definition.specs.Format.{whole}
use Rattle.definition.specs.Pack.{resource}
use Rattle.definition.specs.Model.{Resource}
use Rattle.definition.specs.Refusal.{most_elements}
use Rattle.definition.specs.Resource.{work_resources, resource_kind, max_units, price_of, resources_after, resources}
use Rattle.laws.specs.Each.{Each}
use Rattle.laws.specs.FitRecords.{Short, FitsResourceBy}
use Rattle.bits.specs.Clear.{cleared}
use Rattle.bits.specs.Places.{inside}
use Rattle.bits.specs.declared.Place.{Place}
use Rattle.model.specs.declared.records.Kind.TheVariants.{Resources}
use Rattle.names.specs.Context.{context_at, calendars_before}
use Rattle.names.specs.Lent.{OpenIn, NotedIn, Behind}
use Rattle.names.specs.Named.{named_in}
use Rattle.names.specs.Naming.{Finds}
use Rattle.names.specs.Sought.{end_names}
use Rattle.assignments.specs.declared.section.Done.{Done}
use Rattle.assignments.specs.declared.resource.Section.{Section}
use Rattle.assignments.specs.Section.{Wrote, Goes}

abbrev pub wanted_id : Element → Text
wanted_id r = (text_in r "ID" or_else text_in r "UID") or []

-- what an element says, with an id and a calendar's name
unfoldable pub resource_with : Option Text → Text → Element → Resource
resource_with calendar id r = record {
  id = id;
  name = text_in r "Name" or [];
  kind = resource_kind r;
  unit = text_in r "MaterialLabel" or [];
  max_units = max_units r;
  calendar = calendar;
  price = price_of r;
}

-- ---- the ids in the words

-- the records begin at whole bytes, 32 bits hold their positions, and all so far are noted where they fitted
pub record HeldIn (m : Option Ids) (p : Place) (d w : List ℕ) (r : Done) : Type 0 where
  pub opened : OpenIn m p (length d)
  pub noted : inside (length d) r.next ≡ true → NotedIn Resources m d p w r.count

-- ---- resources one after another

-- by the tables of a section, unless it is the main calendar's
abbrev pub section_names : Section → List ℕ → List ℕ → Text → Option Text
section_names k d w = named_in (context_at d k.calendars (root_at k.root)) k.root.tree.now w k.calendar_names

-- the calendars stand before the resources, the words say their names, and those so far with so many more are no more than the rows
pub record FewResources (k : Section) (w : List ℕ) (rows more : ℕ) (d₀ : List ℕ) (xs : List Resource) : Type 0 where
  pub stand : calendars_before d₀ k.calendars (root_at k.root) k.start ≡ true
  pub finds : Finds (context_at d₀ k.calendars (root_at k.root)) k.root.tree.now k.calendar_names w
  pub fit : Each (FitsResourceBy Short) xs
  pub room : length xs + more ≤ rows
  pub few : rows < 2 ^ 32

abbrev pub after_in : Section → List ℕ → List Resource → List Element → List Resource
after_in k d₀ = resources_after (context_at d₀ k.calendars (root_at k.root))

-- one is added
pub record Adds (k : Section) (a : Element) (d w : List ℕ) (r : Done) (d' w' : List ℕ) (r' : Done) : Type 0 where
  pub adds : (rows : ℕ) → Goes (whole resource) true k.start (λ d₀ xs. FewResources k w rows 1 d₀ xs × HeldIn k.ids k.start d w r) (λ d₀ xs. after_in k d₀ xs (a ∷ [])) d r d' r'
  pub holds : (rows : ℕ) (d₀ : List ℕ) (xs : List Resource) → FewResources k w rows 1 d₀ xs → HeldIn k.ids k.start d w r → Wrote (whole resource) true xs d₀ k.start d r
      → Each (FitsResourceBy Short) (after_in k d₀ xs (a ∷ [])) → HeldIn k.ids k.start d' w' r'
  pub keeps : (from : ℕ) → Behind from k.ids → cleared from w' ≡ cleared from w

-- all are
pub record PutsResources (k : Section) (d w d' w' : List ℕ) (r : Done) : Type 0 where
  pub puts : calendars_before d k.calendars (root_at k.root) k.start ≡ true → length (work_resources (root_at k.root)) ≤ most_elements → HeldIn k.ids k.start d w (record { count = 0; next = k.start })
      → Finds (context_at d k.calendars (root_at k.root)) k.root.tree.now k.calendar_names w → Behind (end_names k.calendar_names) k.ids
      → Wrote (whole resource) true (resources (context_at d k.calendars (root_at k.root)) (root_at k.root)) d k.start d' r
  pub keeps : (from : ℕ) → Behind from k.ids → cleared from w' ≡ cleared from w
