-- `outline::parents::fill` meets its contract. The invariant: i activities are passed over, their parents are in the words, and the place is the
-- next record's. Assumes nothing.
use mathlib.Core.Path.{◌≡◌}
use mathlib.Core.Bool.{true}
use mathlib.Core.List.{List}
use Prim.Native.Nat.{ℕ, ◌*◌, ◌≤◌}
use lib.ListN.{length}
use Rattle.definition.specs.Format.{times}
use Rattle.definition.specs.Model.{Activity}
use Rattle.definition.specs.Pack.{activity}
use Rattle.bits.specs.declared.Place.{Place}
use Rattle.model.specs.Passes.{Passes}
use Rattle.model.specs.Parts.{record_of}
use Rattle.model.specs.Sections.{Holds, byte_at}
use Rattle.model.specs.declared.Section.{Section}
use Rattle.model.specs.declared.records.Kind.TheVariants.{Activities}
use Rattle.outline.proofs.Filling.{Turn}
use Rattle.outline.proofs.parents.fill.Given as goal

-- the section
abbrev pub section_of : ℕ → Place → Section
section_of count at = record { count = count; at = at.byte }

abbrev pub invariant-loop-i : goal.invariant-loop-i
invariant-loop-i l =
    (l.i ≤ l.count) × (length l.work ≡ length l.initial.work) × Passes (times l.i (record_of true Activities)) l.s l.initial.q l.q
    × ((xs : List Activity) (next : ℕ) → Holds activity l.s (section_of l.count l.initial.q) xs next → l.initial.q ≡ byte_at l.initial.q.byte → 4 * l.count ≤ length l.initial.work → Turn l.s (section_of l.count l.initial.q) xs next l.q l.i l.work)
