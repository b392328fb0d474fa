-- The expenses that were written, by a table in lent words: the activity and the name of each, and the byte of its record. Assumes nothing: these are
-- definitions.
use Rattle.std.specs.Prelude.{if◌then◌else◌, ◌≡◌, ℕ, ◌+◌, ◌*◌, ◌%◌, ◌^◌, ◌<◌, ◌≤◌, Bool, true, false, ◌&&◌, List, [], ◌∷◌, map, length, take, pos, ◌==◌, nat_lt, slice_index_or}
use Rattle.std.specs.Prelude.{Option, Some, None}
use Rattle.definition.specs.Base.{given, find, present, some?, same}
use Rattle.definition.specs.Text.{Text}
use Rattle.definition.specs.Format.{whole, put_all}
use Rattle.definition.specs.Model.{Expense}
use Rattle.definition.specs.Pack.{expense}
use Rattle.definition.specs.Resource.{firsts}
use Rattle.bits.specs.Places.{at, inside}
use Rattle.bits.specs.declared.Place.{Place}
use Rattle.index.specs.declared.Table.{Table}
use Rattle.index.specs.Hash.{hash_of}
use Rattle.index.specs.Chains.{zeros, added, place_of, chain_of}
use Rattle.index.specs.Law.{Indexed}
use Rattle.index.specs.Below.{SameBelow}
use Rattle.names.specs.Records.{expense_fields, plain_expenses}
use Rattle.assignments.specs.declared.section.Done.{Done}
use Rattle.assignments.specs.declared.expense.Used.{Used}
use Rattle.assignments.specs.Section.{Wrote}
use Rattle.assignments.specs.Records.{is_expense_at, FewExpenses}

-- ---- the words

-- a table with none in it
abbrev pub emptied : List ℕ → Option Table → List ℕ
emptied w None = w
emptied w (Some t) = zeros w t.at t.rows

-- the hash of an activity's row and a name
abbrev pub key_of : ℕ → Text → ℕ
key_of activity name = (hash_of name + activity) % 2 ^ 32

abbrev pub byte_at : ℕ → Place
byte_at n = record { byte = n; bit = 0 }

-- whether one in the chain of the key is of an activity and has a name
unfoldable pub is_used : List ℕ → List ℕ → Table → ℕ → Text → Bool
is_used d w t activity name = given (find (λ r. is_expense_at d (byte_at (place_of w t r)) activity name) (chain_of w t (key_of activity name)))

-- one more at a place, where the table has a row for it and 32 bits hold its byte; else no table from here on
abbrev pub has_room : Table → ℕ → Place → Bool
has_room t row p = p.bit == 0 && (nat_lt p.byte (2 ^ 32) && nat_lt row t.rows)

unfoldable pub noted_by : List ℕ → Option Table → ℕ → Place → ℕ → (Option Table) × List ℕ
noted_by w None row p key = (None, w)
noted_by w (Some t) row p key = if has_room t row p then (Some t, added w t row key p.byte) else (None, w)

-- ---- what they stand for

-- no expense at all
abbrev pub no_expense : Expense
no_expense = record { activity = 0; name = []; planned = pos 0; actual = pos 0; remaining = None; accrual = 0 }

abbrev pub key_in : List Expense → ℕ → ℕ
key_in xs r = key_of (slice_index_or xs r no_expense).activity (slice_index_or xs r no_expense).name

-- where expenses end that stand from a place on
abbrev pub end_at : Place → List Expense → ℕ
end_at p xs = at p + length (put_all plain_expenses (at p) (map expense_fields xs))

-- those that stand from a place on are in the table, each with the byte of its record
pub record Noted (start : Place) (xs : List Expense) (w : List ℕ) (t : Table) : Type 0 where
  pub places : ℕ → ℕ
  pub indexed : Indexed t (key_in xs) places (length xs) w
  pub stands : (r : ℕ) → r < length xs → end_at start (take r xs) ≡ 8 * places r

-- as long as they fit into the buffer
pub record Noting (start : Place) (xs : List Expense) (d : List ℕ) (u : Used) (w : List ℕ) : Type 0 where
  pub noted : (t : Table) → u.made ≡ Some t → inside (length d) u.done.next ≡ true → Noted start xs w t

-- whether an expense is of an activity and has a name
abbrev pub is_of : ℕ → Text → Expense → Bool
is_of activity name e = activity == e.activity && same name e.name

-- t is whether one that was written is
pub record InUse (start : Place) (d : List ℕ) (u : Used) (w : List ℕ) (activity : ℕ) (name : Text) (t : Bool) : Type 0 where
  pub told : (d₀ : List ℕ) (xs : List Expense) → FewExpenses d₀ xs → Wrote (whole expense) false xs d₀ start d u.done → Noting start xs d u w
      → inside (length d) u.done.next ≡ true → t ≡ some? (is_of activity name) xs

-- the words of a table stand behind so many
pub record Behind (n : ℕ) (m : Option Table) : Type 0 where
  pub behind : (t : Table) → m ≡ Some t → n ≤ t.at

-- one that may be missing is written and noted, unless there is an equal one
pub record Notes (start : Place) (o : Option Expense) (d : List ℕ) (u : Used) (w : List ℕ) (d' : List ℕ) (u' : Used) (w' : List ℕ) : Type 0 where
  pub wrote : (d₀ : List ℕ) (xs : List Expense) → FewExpenses d₀ xs → Wrote (whole expense) false xs d₀ start d u.done → Noting start xs d u w
      → Wrote (whole expense) false (firsts xs (present (o ∷ []))) d₀ start d' u'.done
  pub noting : (d₀ : List ℕ) (xs : List Expense) → FewExpenses d₀ xs → Wrote (whole expense) false xs d₀ start d u.done → Noting start xs d u w
      → Noting start (firsts xs (present (o ∷ []))) d' u' w'
  pub row : (e : Expense) → o ≡ Some e → e.activity < 2 ^ 32
  pub below : (n : ℕ) → Behind n u.made → SameBelow n w w'
  pub still : (t : Table) → u'.made ≡ Some t → u.made ≡ Some t

-- some are written from a place on, and the words below a number stay
pub record WroteBeside (n : ℕ) (xs : List Expense) (d : List ℕ) (p : Place) (w : List ℕ) (d' : List ℕ) (r : Done) (w' : List ℕ) : Type 0 where
  pub wrote : Wrote (whole expense) false xs d p d' r
  pub below : SameBelow n w w'
