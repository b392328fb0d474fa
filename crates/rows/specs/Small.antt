-- The texts of a tree are short, and so are those of its root. Assumes nothing.
use Rattle.std.specs.Prelude.{◌≡◌, ℕ, ◌≤◌, true, length, drop, nat_lt, refl}
use Rattle.std.proofs.Common.{arith}
use Rattle.definition.specs.Base.{every?}
use Rattle.definition.specs.Ascii.{bytes}
use Rattle.definition.specs.Text.{Text}
use Rattle.definition.specs.Tree.{Forest, one}
use Rattle.laws.specs.Bits.{Bytes}
use Rattle.laws.specs.Each.{empty, each_less, each_drop}
use Rattle.laws.specs.FitCalendars.{ascii}
use Rattle.laws.specs.FitTrees.{Throughout, nowhere, along, Slim, Small}
use Rattle.laws.proofs.FitTrees.{small_element}
use Rattle.tree.specs.Place.{element_at}
use Rattle.tree.specs.Root.{root_at}
use Rattle.tree.specs.declared.root.Root.{Root}

-- the element at a position of bytes
pub small_at : (s : Text) → Bytes s → (at : ℕ) → Small (element_at s at)
small_at s b at = small_element (drop at s) (each_drop at b)

-- a name that is written out
slim_name : (n : Text) → length n ≤ 65535 → every? (λ b. nat_lt b 128) n ≡ true → Slim n
slim_name n k h = (k, each_less (λ b i. omega arith) (ascii n h))

pub small_root : (r : Root) → Bytes r.tree.now → Small (root_at r)
unfolding root_at every?
small_root r b =
    record {
      name = slim_name (bytes "Project") (omega arith) refl;
      text = (omega arith, empty);
      below =
          with (bytes "Calendars") (omega arith) refl r.calendars
          (with (bytes "Tasks") (omega arith) refl r.tasks
          (with (bytes "Resources") (omega arith) refl r.resources
          (with (bytes "Assignments") (omega arith) refl r.assignments
          (with (bytes "CalendarUID") (omega arith) refl r.calendar
          (with (bytes "MinutesPerDay") (omega arith) refl r.minutes
          (with (bytes "Title") (omega arith) refl r.title
          (with (bytes "Name") (omega arith) refl r.name
          (with (bytes "StartDate") (omega arith) refl r.start
          (with (bytes "CurrencySymbol") (omega arith) refl r.currency
          (with (bytes "StatusDate") (omega arith) refl r.status nowhere))))))))));
    }
  where
    with : (n : Text) → length n ≤ 65535 → every? (λ b. nat_lt b 128) n ≡ true → (p : ℕ) {rest : Forest} → Throughout Slim rest
        → Throughout Slim (one n (element_at r.tree.now p).text (element_at r.tree.now p).below rest)
    with n k h p rest = let e = small_at r.tree.now b p in along (slim_name n k h) e.text e.below rest
