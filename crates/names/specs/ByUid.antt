-- The calendars by their UIDs and the main one, with their names as they stand in a buffer. Assumes nothing.
use Rattle.std.specs.Prelude.{if◌then◌else◌, ◌≡◌, Bool, ℕ}
use Rattle.std.proofs.Math.Path.{refl, ap}
use Rattle.std.proofs.Common.{◌∙◌}
use Rattle.std.proofs.Math.Bool.{true, false}
use mathlib.Core.List.{List, [], ◌∷◌, map}
use Rattle.std.specs.Prelude.{Option, Some, None}
use Rattle.definition.specs.Base.{◌>>=◌, ◌or◌, ◌or_else◌, keep, first, find, numbered, same}
use Rattle.definition.specs.Ascii.{bytes}
use Rattle.definition.specs.Text.{Text}
use Rattle.definition.specs.Tree.{Element}
use Rattle.definition.specs.Field.{text_in}
use Rattle.definition.specs.Model.{Calendar}
use Rattle.definition.specs.Calendar.{Named, plain_calendar, default_calendar, main_calendar, with_uid, name_of}
use Rattle.bits.specs.declared.Place.{Place}
use Rattle.rows.specs.Rows.{in_order, with_uid_in, main_in}
use Rattle.names.specs.Context.{name_in, built_at, context_at}

module _ (f : ℕ × Element → Named) where
  first_map : (l : List (ℕ × Element)) → first (map f l) ≡ (first l >>= λ x. Some (f x))
  unfolding first
  first_map [] = refl
  first_map (x ∷ l) = refl

  find_map : (p : Named → Bool) (l : List (ℕ × Element)) → find p (map f l) ≡ (find (λ x. p (f x)) l >>= λ x. Some (f x))
  unfolding keep first
  find_map p [] = first_map []
  find_map p (x ∷ l) = by_test (p (f x)) (keep p (map f l)) (keep (λ x. p (f x)) l) (find_map p l)
    where
      by_test : (t : Bool) (a : List Named) (b : List (ℕ × Element)) → first a ≡ (first b >>= λ x. Some (f x)) → first (if t then f x ∷ a else a) ≡ (first (if t then x ∷ b else b) >>= λ x. Some (f x))
      by_test true a b e = refl
      by_test false a b e = e

module _ (d : List ℕ) (c : Place) (root : Element) where
  abbrev entry : ℕ × Element → Named
  entry x = (text_in x.1 "UID" or [], plain_calendar (name_in d c root x) [] [])

  with_uid_lem : (u : Text) → with_uid u (built_at d c root) ≡ (with_uid_in root u >>= λ x. Some (entry x).1)
  unfolding built_at
  with_uid_lem u = ap (λ (o : Option Named). o >>= λ x. Some x.1) (find_map entry (λ (x : Named). same x.0 u) (numbered 0 (in_order root))) ∙ by_found (with_uid_in root u)
    where
      by_found : (o : Option (ℕ × Element)) → (o >>= (λ x. Some (entry x)) >>= λ x. Some x.1) ≡ (o >>= λ x. Some (entry x).1)
      by_found None = refl
      by_found (Some x) = refl

  first_entry : (first (built_at d c root) >>= λ x. Some x.1) ≡ (first (numbered 0 (in_order root)) >>= λ x. Some (entry x).1)
  unfolding built_at
  first_entry = ap (λ (o : Option Named). o >>= λ x. Some x.1) (first_map entry (numbered 0 (in_order root))) ∙ by_found (first (numbered 0 (in_order root)))
    where
      by_found : (o : Option (ℕ × Element)) → (o >>= (λ x. Some (entry x)) >>= λ x. Some x.1) ≡ (o >>= λ x. Some (entry x).1)
      by_found None = refl
      by_found (Some x) = refl

  -- the name of a UID
  pub name_with : (u : Text) → name_of (built_at d c root) u ≡ (with_uid_in root u >>= λ x. Some (name_in d c root x))
  name_with u = ap (λ (o : Option Calendar). o >>= λ x. Some x.name) (with_uid_lem u) ∙ by_found (with_uid_in root u)
    where
      by_found : (o : Option (ℕ × Element)) → (o >>= (λ x. Some (entry x).1) >>= λ x. Some x.name) ≡ (o >>= λ x. Some (name_in d c root x))
      by_found None = refl
      by_found (Some x) = refl

  main_is : ((text_in root "CalendarUID" >>= λ u. with_uid u (built_at d c root)) or_else (first (built_at d c root) >>= λ x. Some x.1)) ≡ (main_in root >>= λ x. Some (entry x).1)
  unfolding main_in
  main_is = by_uid (text_in root "CalendarUID")
    where
      by_found : (o : Option (ℕ × Element)) → (o >>= (λ x. Some (entry x).1)) or_else (first (built_at d c root) >>= λ x. Some x.1) ≡ ((o or_else first (numbered 0 (in_order root))) >>= λ x. Some (entry x).1)
      by_found None = first_entry
      by_found (Some x) = refl

      by_uid : (o : Option Text) → ((o >>= λ u. with_uid u (built_at d c root)) or_else (first (built_at d c root) >>= λ x. Some x.1)) ≡ (((o >>= with_uid_in root) or_else first (numbered 0 (in_order root))) >>= λ x. Some (entry x).1)
      by_uid None = first_entry
      by_uid (Some u) = ap (λ (o : Option Calendar). o or_else (first (built_at d c root) >>= λ x. Some x.1)) (with_uid_lem u) ∙ by_found (with_uid_in root u)

  main_calendar_lem : main_calendar root (built_at d c root) ≡ ((main_in root >>= λ x. Some (entry x).1) or default_calendar)
  unfolding main_calendar
  main_calendar_lem = ap (λ (o : Option Calendar). o or default_calendar) main_is

  -- the main one's name
  pub main_there : (x : ℕ × Element) → main_in root ≡ Some x → (context_at d c root).main.name ≡ name_in d c root x
  unfolding context_at
  main_there x h =
      let z : main_calendar root (built_at d c root) ≡ (entry x).1 = main_calendar_lem ∙ ap (λ (o : Option (ℕ × Element)). (o >>= λ x. Some (entry x).1) or default_calendar) h in
      ap (λ (y : Calendar). y.name) z

  pub main_absent : main_in root ≡ None → (context_at d c root).main.name ≡ bytes "Standard"
  unfolding context_at default_calendar
  main_absent h =
      let z : main_calendar root (built_at d c root) ≡ default_calendar = main_calendar_lem ∙ ap (λ (o : Option (ℕ × Element)). (o >>= λ x. Some (entry x).1) or default_calendar) h in
      ap (λ (y : Calendar). y.name) z
