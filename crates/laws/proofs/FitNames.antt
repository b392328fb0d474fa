-- Names with stars are new, so the names of the calendars are distinct. Assumes nothing.
use Rattle.std.specs.Prelude.{not, List, [], ◌∷◌, ◌++◌, length}
use Rattle.std.proofs.Common.{sym, subst}
use Rattle.definition.specs.Base.{◌>>=◌, ◌or◌, given, keep}
use Rattle.definition.specs.Text.{Text}
use Rattle.definition.specs.Tree.{Element}
use Rattle.definition.specs.Calendar.{free, Named, with_uid, base_of, build, calendar_elements, built_calendars, calendar_of, default_calendar}
use Rattle.laws.specs.FitNames.{Fresh, many_most, starred_new, Distinct, empty, distinct_end, names_in, names_append, added_to}

-- ---- a name with stars

pub free_new : (names : List Text) (n : Text) → Fresh (free names n) names
free_new names n = starred_new (length names) names n (many_most (length n) names)

-- ---- distinct names

pub free_distinct : {names : List Text} (n : Text) → Distinct names → Distinct (names ++ (free names n ∷ []))
free_distinct {names = names} n d = distinct_end (free names n) d (free_new names n)

-- ---- the calendars

pub added_distinct : (built : List Named) (e : Element) → Distinct (names_in built) → Distinct (names_in (built ++ (added_to built e ∷ [])))
added_distinct built e d =
    subst Distinct (sym (names_append built (added_to built e ∷ [])))
    (free_distinct (calendar_of e ((base_of e >>= λ u. with_uid u built) or default_calendar)).name d)

pub build_distinct : (built : List Named) (es : List Element) → Distinct (names_in built) → Distinct (names_in (build built es))
unfolding build
build_distinct built [] d = d
build_distinct built (e ∷ es) d = build_distinct (built ++ (added_to built e ∷ [])) es (added_distinct built e d)

pub built_distinct : (root : Element) → Distinct (names_in (built_calendars root))
unfolding built_calendars build
built_distinct root =
    let es = calendar_elements root in
    let first = keep (λ e. not (given (base_of e))) es in
    build_distinct (build [] first) (keep (λ e. given (base_of e)) es) (build_distinct [] first empty)
