-- The rules of each record, from what the readers of its parts answer. Assumes nothing.
use mathlib.Core.Path.{◌≡◌, refl, ap, ◌∙◌}
use Rattle.std.specs.Prelude.{Some}
use mathlib.Core.Bool.{Bool, true, not}
use mathlib.Core.List.{List, [], ◌∷◌, map}
use Rattle.std.specs.Prelude.{Option, None}
use Rattle.std.specs.Borrow.{Bor}
use Prim.Native.Nat.{ℕ}
use Rattle.definition.specs.Base.{some?}
use Rattle.definition.specs.Text.{Text}
use Rattle.definition.specs.Format.{whole, row, text, optional}
use Rattle.definition.specs.Model.{Model, Calendar, Link, Assignment}
use Rattle.definition.specs.Pack.{link, assignment}
use Rattle.definition.specs.Check.{if_given, is_calendar, link_right, assignment_right}
use Rattle.laws.specs.Tests.{some_map}
use Rattle.laws.specs.FitNames.{same_turned}
use Rattle.bits.specs.declared.Place.{Place}
use Rattle.bits.specs.declared.Field.{Field}
use Rattle.model.specs.Splits.{Stands, stands_or}
use Rattle.model.specs.Sections.{Decoded}
use Rattle.model.specs.Answers.{row_at, rows_at}
use Rattle.model.specs.Places.{NameTaken, link_rows, assignment_rows}
use Rattle.model.specs.PerKind.{Sections}
use Rattle.model_check.specs.Keys.{same_key}
use Rattle.model_check.specs.Rules.{rows_below}

-- ---- a parent's row

pub parent_right : {s : List ℕ} {p : Place} {x : Option ℕ × Place} {o : Option ℕ} → Stands (optional row) s p o → x ≡ row_at s p → x.0 ≡ o
parent_right h e = ap (λ (x : Option ℕ × Place). x.0) e ∙ stands_or h None

-- ---- a calendar's name

some_ext : {A : Type 0} {p q : A → Bool} → ((x : A) → p x ≡ q x) → (l : List A) → some? p l ≡ some? q l
unfolding some?
some_ext h [] = refl
some_ext h (x ∷ l) = rw (h x, some_ext h l)

module _ (m : Model) (n : Text) where
  pub named : some? (λ (c : Calendar). same_key (0, n) (0, c.name)) m.calendars ≡ is_calendar m n
  unfolding is_calendar
  named = some_ext (λ c. same_turned n c.name) m.calendars

  pub named_in : some? (same_key (0, n)) (map (λ (c : Calendar). (0, c.name)) m.calendars) ≡ is_calendar m n
  named_in = some_map (same_key (0, n)) (λ (c : Calendar). (0, c.name)) m.calendars ∙ named

module _ {s : List ℕ} {p : Place} {r : Field (Option (Bor (List ℕ))) Place} {o : Option Text} (m : Model) (h : Stands (optional text) s p o) (e : NameTaken s p r) where
  pub no_name : r.value ≡ None → true ≡ if_given (is_calendar m) o
  no_name g = rw (e.text o h, g)

  pub a_name : (u : Bor (List ℕ)) → r.value ≡ Some u → is_calendar m u.now ≡ if_given (is_calendar m) o
  a_name u g = rw (e.text o h, g)

-- ---- rows

module _ {s : List ℕ} {p : Place} {m : Model} {w : Sections} (d : Decoded s m w) {r : Bool} where
  pub link_right_lem : {a : Link} → Stands (whole link) s p a → r ≡ rows_below (rows_at s p).0 w.activities.count w.activities.count → r ≡ link_right m a
  unfolding link_right
  link_right_lem h b = let u = link_rows h refl in b ∙ rw (u.0, u.1, d.activities.count)

  pub assignment_right_lem : {a : Assignment} → Stands (whole assignment) s p a → r ≡ rows_below (rows_at s p).0 w.activities.count w.resources.count → r ≡ assignment_right m a
  unfolding assignment_right
  assignment_right_lem h b = let u = assignment_rows h refl in b ∙ rw (u.0, u.1, d.activities.count, d.resources.count)

-- the test of a scan for a record that is not right
abbrev pub wrong : {A : Type 0} → (A → Bool) → ℕ → A → List A → Bool
wrong of i x l = not (of x)
