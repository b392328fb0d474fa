-- The names of the calendars, as they stand in a buffer, are short. Assumes nothing.
use Rattle.std.specs.Prelude.{ℕ, suc, ◌-◌, ◌^◌, ◌<◌, refl, not, List, length}
use Rattle.std.proofs.Common.{arith, length-append}
use Rattle.std.proofs.lemmas.List.{length-replicate}
use Rattle.definition.specs.Ascii.{bytes}
use Rattle.definition.specs.Base.{given, every?, numbered}
use Rattle.definition.specs.Calendar.{Named, base_of}
use Rattle.definition.specs.Tree.{Element}
use Rattle.laws.specs.Each.{Each, empty, next, each_append, each_replicate}
use Rattle.laws.specs.FitCalendars.{ascii}
use Rattle.laws.specs.FitLists.{each_keep, each_map, perhaps_or}
use Rattle.laws.specs.FitRecords.{Short}
use Rattle.laws.specs.FitTrees.{Slim, Small, holds_calendars, slim_texts, says}
use Rattle.bits.specs.declared.Place.{Place}
use Rattle.model.specs.declared.records.Kind.TheVariants.{Calendars}
use Rattle.rows.specs.Rows.{in_order}
use Rattle.names.specs.Texts.{place_of_row, text_at}
use Rattle.names.specs.Context.{main_row, section_row, wanted_name, name_in, built_at}
use Rattle.names.specs.Seen.{raw_length}

-- each with its row
each_numbered : {A : Type 0} {P : A → Type 0} (n : ℕ) {l : List A} → Each P l → Each (λ (x : ℕ × A). P x.1) (numbered n l)
unfolding numbered
each_numbered n empty = empty
each_numbered n (next h f) = next h (each_numbered (suc n) f)

in_order_lem : {root : Element} → Small root → Each Small (in_order root)
unfolding in_order
in_order_lem h = each_append (each_keep (λ e. not (given (base_of e))) (holds_calendars h)) (each_keep (λ e. given (base_of e)) (holds_calendars h))

wanted_slim : {e : Element} → Small e → Slim (wanted_name e)
unfolding every?
wanted_slim h = perhaps_or {P = Slim} (bytes "Calendar") (says slim_texts h "Name") (slim_texts.plain (bytes "Calendar") (ascii (bytes "Calendar") refl) (omega arith))

text_length : (d : List ℕ) (c : Place) (row : ℕ) → length (text_at Calendars d c row) < 2 ^ 32
unfolding text_at
text_length d c row = raw_length d (place_of_row Calendars d c row)

module _ (d : List ℕ) (c : Place) where
  name_short : (root : Element) (x : ℕ × Element) → Small x.1 → Short (name_in d c root x)
  name_short root x h =
      let w = wanted_slim h in
      let n = length (text_at Calendars d c (section_row (main_row root) x.0)) in
      let l = text_length d c (section_row (main_row root) x.0) in (
        rw (length-append, length-replicate) (omega (arith, w.0, l)),
        each_append w.1 (each_replicate (n - length (wanted_name x.1)) 42 (omega arith)),
      )

  pub built_short : {root : Element} → Small root → Each (λ (n : Named). Short n.1.name) (built_at d c root)
  unfolding built_at
  built_short {root} h = each_map _ (name_short root) (each_numbered 0 (in_order_lem h))
