-- Keys that stand first in their records. Assumes nothing.
use mathlib.Core.Path.{◌≡◌, refl, sym, ap, ◌∙◌}
use mathlib.Core.Bool.{Bool, false}
use mathlib.Core.List.{List}
use Rattle.std.specs.Prelude.{Option, Some, None}
use Prim.Native.Nat.{ℕ}
use native.Mathlib.Omega.{arith}
use lib.ListN.{length}
use borrow.Author.Tests.{le-leb, eq-eqb, ne_eqb}
use Rattle.definition.specs.Base.{◌>>=◌, some?, same}
use Rattle.definition.specs.Bits.{Bits, dec}
use Rattle.definition.specs.Text.{Text}
use Rattle.definition.specs.Format.{field, text}
use Rattle.definition.specs.Model.{Calendar, Activity, Resource, Expense}
use Rattle.definition.specs.Pack.{calendar}
use Rattle.bits.specs.Reads.{rest, taken_at, read_field, after_end}
use Rattle.bits.specs.declared.Place.{Place}
use Rattle.bits.specs.declared.Field.{Field}
use Rattle.laws.specs.Options.{bind_ext, bind_some}
use Rattle.model.specs.Lax.{left}
use Rattle.model.specs.Passes.{Passes, pass_read}
use Rattle.model.specs.Splits.{Stands, not_refused, stands_is, stands_first, stands_named, stands_whole}
use Rattle.model.specs.Places.{activity_id, resource_id, expense_activity, expense_name}
use Rattle.model.specs.declared.records.Kind.TheVariants.{Calendars, Activities, Resources, Expenses}
use Rattle.model_check.specs.Keys.{Key, same_key, KeyAt, Keyed}

-- no bits
no_bits : (l : Bits) → (field 0).get l ≡ Some (0, l)
unfolding field dec
no_bits l = rw (le-leb 0 (length l) (omega arith))

-- a text is a key with no row
pub led : {s : List ℕ} {p : Place} {t : Text} → Stands text s p t → KeyAt 0 s p (0, t)
led {s} {p} {t} h = record { row = by_rest (rest s p) refl; name = λ i. record { left_over = h.left_over; gives = ap (λ (o : Option Bits). o >>= text.get) (sym (stays i)) ∙ h.gives } }
  where
    stays : {q : Place} → Passes (field 0) s p q → rest s p ≡ rest s q
    stays {q} i = sym (bind_some (rest s p)) ∙ bind_ext (rest s p) (λ l. Some l) (left (field 0)) (λ l. rw (no_bits l)) ∙ i.passes

    by_rest : (o : Option Bits) → rest s p ≡ o → Stands (field 0) s p 0
    by_rest None e = absurd (not_refused h (after_end text e))
    by_rest (Some l) e = record { left_over = l; gives = rw e (no_bits l) }

module _ {s : List ℕ} where
  pub calendar_key : Keyed Calendars 0 s (λ (c : Calendar). (0, c.name))
  unfolding calendar
  calendar_key = record { first = λ h. led (let u = stands_named _ _ (stands_whole h) in rw u.is (stands_first _ u.stands)) }

  pub activity_key : Keyed Activities 0 s (λ (a : Activity). (0, a.id))
  activity_key = record { first = λ h. led (activity_id h) }

  pub resource_key : Keyed Resources 0 s (λ (a : Resource). (0, a.id))
  resource_key = record { first = λ h. led (resource_id h) }

  pub expense_key : Keyed Expenses 32 s (λ (e : Expense). (e.activity, e.name))
  expense_key = record { first = λ h. record { row = expense_activity h; name = expense_name h } }

-- what a reader of a key answers
module _ {w n : ℕ} {s : List ℕ} {p : Place} {k : Key} {v : Field ℕ Place} (h : KeyAt w s p k) (f : n ≡ w) (e : v ≡ taken_at s p n) where
  row_read : v ≡ taken_at s p w
  row_read = e ∙ ap (taken_at s p) f

  pub key_row : v.value ≡ k.0
  key_row = stands_is h.row (read_field s p w row_read)

  pub key_name : Stands text s v.next k.1
  key_name = h.name (pass_read (read_field s p w row_read))

  pub other_row : (row : ℕ) (t : Text) → (v.value ≡ row → ⊥) → false ≡ same_key (row, t) k
  other_row row t m = rw (ne_eqb row k.0 (λ z. m (key_row ∙ sym z)))

  pub same_row : (row : ℕ) (t : Text) {u : Text} → v.value ≡ row → u ≡ k.1 → same t u ≡ same_key (row, t) k
  same_row row t y z = rw (eq-eqb row k.0 (sym y ∙ key_row), z)

-- the tests of a scan for a key, and of one for a key that comes again
abbrev pub hits : {A : Type 0} → (A → Key) → ℕ → Text → ℕ → A → List A → Bool
hits key row t i x l = same_key (row, t) (key x)

abbrev pub repeats : {A : Type 0} → (A → Key) → ℕ → A → List A → Bool
repeats key i x l = some? (λ y. same_key (key x) (key y)) l
