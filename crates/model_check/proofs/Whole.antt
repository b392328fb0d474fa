-- The check's list from the answers to its lines, and the number from both passes. Assumes nothing.
use Rattle.std.specs.Prelude.{if◌then◌else◌}
use Rattle.std.specs.Prelude.{None, Option, Some}
use mathlib.Core.Path.{◌≡◌, refl, sym, ap}
use mathlib.Core.Bool.{Bool, true, false, ◌&&◌, not}
use mathlib.Core.List.{List, [], ◌∷◌, map}
use Rattle.definition.specs.Text.{Text}
use Rattle.definition.specs.Model.{Model}
use Rattle.definition.specs.Check.{distinct, keeps_list}
use Rattle.definition.specs.Refusal.{check_answer}
use Rattle.laws.specs.Tests.{some_map}
use Rattle.model.specs.Sections.{Decoded, Opens}
use Rattle.model.specs.PerKind.{Sections}

pub both : {a b c d : Bool} → a ≡ b → c ≡ d → a && c ≡ b && d
both e f = rw (e, f)

-- items with distinct keys, and their keys
pub distinct_map : {A B : Type 0} (eq : B → B → Bool) (key : A → B) (l : List A) → distinct (λ x y. eq (key x) (key y)) l ≡ distinct eq (map key l)
unfolding distinct
distinct_map eq key [] = refl
distinct_map eq key (x ∷ l) = both (ap not (sym (some_map (eq (key x)) key l))) (distinct_map eq key l)

-- ---- the number

module _ {s : Text} {o : Option Sections} (h : Opens s o) where
  pub refused : o ≡ None → 6 ≡ check_answer s
  unfolding check_answer
  refused e = rw (h.refused e)

  pub checked : {r : Sections} {b g : Bool} → o ≡ Some r → ((m : Model) → Decoded s m r → b ≡ keeps_list m) → b ≡ g → (if g then 0 else 7) ≡ check_answer s
  unfolding check_answer
  checked {r} e k u = let m = h.model r e in rw (← u, k m.model m.sections, m.decodes)

-- eight tests, from the first on or from the last
pub in_row : (a b c d e f g h : Bool) → (((((((a && b) && c) && d) && e) && f) && g) && h) ≡ (a && (b && (c && (d && (e && (f && (g && h)))))))
in_row false b c d e f g h = refl
in_row true false c d e f g h = refl
in_row true true false d e f g h = refl
in_row true true true false e f g h = refl
in_row true true true true false f g h = refl
in_row true true true true true false g h = refl
in_row true true true true true true false h = refl
in_row true true true true true true true h = refl
