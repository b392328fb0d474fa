-- What a look-up in the tree answers. Assumes nothing: these are definitions.
use Rattle.std.specs.Prelude.{ℕ, Bool, not, List, [], ◌++◌}
use Rattle.std.specs.Prelude.{Option, Some, None}
use Rattle.definition.specs.Base.{◌>>=◌, ◌or◌, ◌or_else◌, given, keep, find, first, numbered, same}
use Rattle.definition.specs.Text.{Text}
use Rattle.definition.specs.Tree.{Element}
use Rattle.definition.specs.Field.{text_in}
use Rattle.definition.specs.Calendar.{base_of, calendar_elements}
use Rattle.tree.specs.Place.{meaning}
use Rattle.tree.specs.declared.element.Element.{Element as Place}

-- the element that was found
unfoldable pub found_meaning : Option Place → Option Element
found_meaning None = None
found_meaning (Some x) = Some (meaning x)

abbrev pub has_uid : Text → Element → Bool
has_uid u e = same (text_in e "UID" or []) u

-- the calendars in the order in which they are built: those without a base, then the others
unfoldable pub in_order : Element → List Element
in_order root = keep (λ e. not (given (base_of e))) (calendar_elements root) ++ keep (λ e. given (base_of e)) (calendar_elements root)

-- the first of them with a UID, and its row
abbrev pub with_uid_in : Element → Text → Option (ℕ × Element)
with_uid_in root u = find (λ (x : ℕ × Element). has_uid u x.1) (numbered 0 (in_order root))

-- the main one: that of CalendarUID, else the first
unfoldable pub main_in : Element → Option (ℕ × Element)
main_in root = (text_in root "CalendarUID" >>= with_uid_in root) or_else first (numbered 0 (in_order root))

unfoldable pub calendar_meaning : Option (ℕ × Place) → Option (ℕ × Element)
calendar_meaning (Some (row, x)) = Some (row, meaning x)
calendar_meaning None = None

-- the first one, where there is any
abbrev pub row_zero : Option Place → Option (ℕ × Place)
row_zero None = None
row_zero (Some x) = Some (0, x)
