-- Links. MSPDI: a PredecessorLink names its predecessor's UID; LinkLag is in tenths of a minute, of a percent where LagFormat is 19 or 20. Document 01
-- and the Rust: it is across projects with a yes in CrossProject, else dangling if its PredecessorUID is absent or no kept task's UID, else kept, from
-- the row of the last kept task with that UID to the row of the task it stands in. Lags are cut toward zero to whole minutes before they are
-- tested for whole days: a lag of -15 tenths is -1 minute, so lag 0 and minutes -1. The day is always MinutesPerDay. Assumes nothing.
use Rattle.std.specs.Prelude.{if◌then◌else◌, ℕ, suc, ◌/◌, ◌%◌, ◌*◌, min, Bool, true, false, not, eqb, ℤ, pos, negsuc, neg_ℤ, nat_abs}
use mathlib.Core.List.{List, [], ◌∷◌, flat_map, map}
use Rattle.std.specs.Prelude.{Option, Some, None}
use Rattle.definition.specs.Base.{◌>>=◌, ◌or◌, when, numbered, some?}
use Rattle.definition.specs.Ascii.{bytes}
use Rattle.definition.specs.Tree.{Element, all}
use Rattle.definition.specs.Field.{text_in, yes_in, int_in}
use Rattle.definition.specs.Model.{Link}
use Rattle.definition.specs.Task.{Context, row_of, format_of, percent_format, elapsed_format}

-- held to -most to most; divided, the quotient cut toward zero; multiplied
abbrev pub held_by : ℕ → ℤ → ℤ
held_by most (pos n) = pos (min n most)
held_by most (negsuc n) = neg_ℤ (pos (min (suc n) most))

abbrev pub cut : ℤ → ℕ → ℤ
cut (pos n) d = pos (n / d)
cut (negsuc n) d = neg_ℤ (pos (suc n / d))

abbrev pub tenfold : ℤ → ℤ
tenfold (pos n) = pos (n * 10)
tenfold (negsuc n) = neg_ℤ (pos (suc n * 10))

-- ---- the lag

pub record Lag : Type 0 where
  pub days : ℤ
  pub minutes : Option ℤ
  pub kind : ℕ × Option ℤ

-- working time, in days where it is whole days; elapsed time; a share of the predecessor's duration, in hundredths of a percent
abbrev pub working_lag : ℕ → ℤ → Lag
working_lag per_day minutes =
    let whole = eqb (nat_abs minutes % per_day) 0 in
    record { days = if whole then cut minutes per_day else pos 0; minutes = when (not whole) minutes; kind = (0, None) }

abbrev pub elapsed_lag : ℤ → Lag
elapsed_lag minutes = record { days = pos 0; minutes = Some minutes; kind = (1, None) }

abbrev pub percent_lag : ℤ → Lag
percent_lag tenths = record { days = pos 0; minutes = None; kind = (2, Some (held_by 10000000 (tenfold tenths))) }

unfoldable pub lag_of : ℕ → ℕ → ℤ → Lag
lag_of per_day format tenths =
    if percent_format format then percent_lag tenths else
    if elapsed_format format then elapsed_lag (cut tenths 10) else
    working_lag per_day (cut tenths 10)

-- LinkLag, held to -100,000,000,000 to 100,000,000,000
abbrev pub link_lag : ℕ → Element → Lag
link_lag per_day l = lag_of per_day (format_of l "LagFormat") (held_by 100000000000 (int_in l "LinkLag" or pos 0))

-- ---- the link

-- MSPDI: 0 finish to finish, 1 finish to start, 2 start to finish, 3 start to start
abbrev pub kind_from : ℤ → ℕ
kind_from (negsuc n) = 0
kind_from (pos n) = if eqb n 0 then 2 else if eqb n 2 then 3 else if eqb n 3 then 1 else 0

abbrev pub link_kind : Element → ℕ
link_kind l = kind_from (int_in l "Type" or pos 1)

unfoldable pub link_of : Context → ℕ → ℕ → Element → Link
link_of x predecessor successor l =
    let lag = link_lag x.per_day l in
    record {
      predecessor = predecessor;
      successor = successor;
      kind = link_kind l;
      lag = lag.days;
      minutes = lag.minutes;
      lag_kind = lag.kind;
    }

-- what becomes of a link element
pub data Fate : Type 0 where
  across dangling : Fate
  kept : Link → Fate

abbrev pub fate_by : Context → ℕ → Element → Option ℕ → Fate
fate_by x successor l None = dangling
fate_by x successor l (Some p) = kept (link_of x p successor l)

unfoldable pub fate_of : Context → ℕ → Element → Fate
fate_of x successor l =
    if yes_in l "CrossProject" then across else fate_by x successor l (text_in l "PredecessorUID" >>= row_of x.tasks)

-- of the kept tasks' link elements, in order
unfoldable pub fates : Context → List Fate
fates x = flat_map (λ (p : ℕ × Element). map (fate_of x p.0) (all p.1 (bytes "PredecessorLink"))) (numbered 0 x.tasks)

unfoldable pub kept_of : List Fate → List Link
kept_of [] = []
kept_of (across ∷ l) = kept_of l
kept_of (dangling ∷ l) = kept_of l
kept_of (kept x ∷ l) = x ∷ kept_of l

abbrev pub is_dangling : Fate → Bool
is_dangling across = false
is_dangling dangling = true
is_dangling (kept x) = false

abbrev pub is_across : Fate → Bool
is_across across = true
is_across dangling = false
is_across (kept x) = false

unfoldable pub links : Context → List Link
links x = kept_of (fates x)

-- a kept link enters the row
abbrev pub entered : List Link → ℕ → Bool
entered ls row = some? (λ (l : Link). eqb l.successor row) ls
