-- The tables of ids behind the columns. Assumes nothing.
use Prim.Native.Nat.{ℕ, ◌+◌, ◌-◌, ◌≤◌, ◌<◌, min}
use Rattle.index.specs.declared.Table.{Table}
use Rattle.names.specs.declared.ids.Ids.{Ids}
use native.Mathlib.Decide.{dec_lt}
use native.Mathlib.Omega.{arith}
use mathlib.Core.Path.{◌≡◌, sym, ap, ◌∙◌}
use mathlib.Core.Bool.{Bool, true}
use mathlib.Core.List.{List, ◌++◌, map}
use Rattle.std.specs.Prelude.{Option}
use lib.ListN.{length, take, replicate}
use lib.Seq.{take-length, take_all}
use Rattle.definition.specs.Calendar.{free}
use Rattle.definition.specs.Task.{level_of, kept_tasks, parent_of}
use Rattle.definition.specs.Text.{Text}
use Rattle.definition.specs.Tree.{Element}
use Rattle.bits.specs.Clear.{cleared}
use Rattle.bits.specs.Places.{inside}
use Rattle.bits.specs.declared.Place.{Place}
use Rattle.index.specs.Below.{SameBelow, below_then}
use Rattle.index.specs.Chains.{end_in}
use Rattle.model.specs.declared.records.Kind.TheVariants.{Activities}
use Rattle.names.specs.Cleared.{below_cap}
use Rattle.names.specs.Context.{context_at}
use Rattle.names.specs.Ids.{ids_for, begun, noted_by, starred_in}
use Rattle.names.specs.Lent.{NotedIn, begun_open, begun_behind, begun_rows, begun_noted, begun_same, stars_free, noted_words, notes_below}
use Rattle.names.specs.Named.{Makes}
use Rattle.names.specs.Naming.{Finds, finds_kept, makes_finds, makes_behind, makes_below}
use Rattle.names.specs.Noted.{cleared_same}
use Rattle.names.specs.Sought.{end_names}
use Rattle.names.specs.Texts.{texts_at}
use Rattle.names.specs.declared.uids.CalendarTable.{CalendarTable}
use Rattle.pack.specs.Value.{starred_by}
use Rattle.tree.specs.Place.{element_at}
use Rattle.activities.specs.Climbing.{parents_are, held_kept, held_more, noted_below, noted_in}
use Rattle.activities.specs.Own.{IdsOpen, OwnRoom, RowNoted}
use Rattle.activities.specs.Parents.{end_of, noted, Room, Behind, task_at, Held}
use Rattle.activities.specs.declared.own.Own.{Own}
use Rattle.activities.specs.declared.parents.Columns.{Columns}

-- ---- all words of the section

-- the calendars behind the table of the tasks, the columns behind them, and the ids
pub own_begun : {columns : Columns} {ids : Option Ids} {tasks : Option Table} {d : List ℕ} {start : Place} {w w₁ w₂ : List ℕ} {bytes end : ℕ} {c : Place} {s : Text} {root : Element} {t : CalendarTable}
    → end ≡ min (end_in tasks) (length w) → Makes d c s root end w w₁ t → Room columns (length w₁) bytes × Behind columns t.end
    → (ids ≡ ids_for (length d) start (length w₁) (end_of columns) columns.rows) × (w₂ ≡ begun w₁ ids)
    → OwnRoom (record { calendars = t.table; columns = columns; ids = ids }) tasks d start w₂ bytes × SameBelow (end_in tasks) w w₂ × Finds (context_at d c root) s t.table w₂
own_begun {columns} {ids} {tasks} {d} {start} {w} {w₁} {w₂} {t = t} e m r (i, z) =
    let (begin, names) = makes_behind m in
    let first = makes_below m in
    let behind : Behind columns (end_in tasks) = λ h. let z = r.1 h in let y = r.0.room h in omega (arith, first.long) in
    let behind_names : Behind columns (end_names t.table) = λ h. let z = r.1 h in omega arith in
    let rows = begun_rows (length d) start w₁ (end_of columns) columns.rows i in
    let same : (n : ℕ) → Behind columns n → SameBelow n w₁ w₂ = λ n k. rw z (begun_same (length d) start w₁ (end_of columns) columns.rows i (λ j h. let y = k (rows j h).0 in omega arith)) in
    let then = same (end_in tasks) behind in
    let keeps = same (end_names t.table) behind_names in (
      record {
        room = rw then.long r.0;
        behind = behind;
        behind_names = behind_names;
        opened = λ j h.
            let (whole, short) = begun_open (length d) start w₁ (end_of columns) columns.rows i j h in
            let (a, b) = begun_behind (length d) start w₁ (end_of columns) columns.rows i j h in
            record { some = (rows j h).0; behind = a; behind_wanted = b; whole = whole; short = short };
        ids = rw z (begun_noted (length d) start w₁ (end_of columns) columns.rows i Activities d);
      },
      below_then (below_cap e first) then,
      finds_kept keeps (makes_finds m),
    )

-- ---- a row

-- its parent is noted first
pub ids_moved : {ids : Option Ids} {columns : Columns} {start : Place} {len : ℕ} → IdsOpen ids columns start len → {d w : List ℕ} {row : ℕ} → NotedIn Activities ids d start w row → (at : ℕ) (o : Option ℕ) {w' : List ℕ} → w' ≡ noted columns row at o w
    → NotedIn Activities ids d start w' row
ids_moved {columns = columns} open_at {w = w} {row} h at o e =
    rw e (noted_words (λ i g. let x = open_at i g in (noted_in columns row at o w x.behind, noted_in columns row at o w x.behind_wanted)) h)

-- stars that are free
pub stars_moved : {ids : Option Ids} {columns : Columns} {start : Place} {d : List ℕ} → IdsOpen ids columns start (length d) → (p : Place) {w : List ℕ} {row : ℕ} → (inside (length d) p ≡ true → NotedIn Activities ids d start w row)
    → (at : ℕ) (o : Option ℕ) {w' : List ℕ} → w' ≡ noted columns row at o w → (u : Text) (stars : ℕ) → starred_by u stars ≡ starred_in Activities d start p w' ids row u
    → inside (length d) p ≡ true → starred_by u stars ≡ free (texts_at Activities d start row) u
stars_moved open_at p h at o e u stars z i = z ∙ stars_free (ids_moved open_at (h i) at o e) p i u

module _ (own : Own) (row at : ℕ) {o o' : Option ℕ} (i : o ≡ o') {v u : Text} (j : v ≡ u) (stars byte : ℕ) (w : List ℕ) {w₁ w₂ : List ℕ} where
  pub row_noted : w₁ ≡ noted own.columns row at o w → w₂ ≡ noted_by w₁ own.ids row v stars byte → {taken : List Text} {fits : Bool} → (fits ≡ true → starred_by v stars ≡ free taken v) → RowNoted own row at o' u byte taken fits w w₂
  row_noted a b f = record {
    stars = stars;
    is = b ∙ (λ k. noted_by ((a ∙ ap (λ (o : Option ℕ). noted own.columns row at o w) i) k) own.ids row (j k) stars byte);
    free_is = λ h. rw j at (f h);
  }

-- ---- what the words of a row leave

module _ {own : Own} {row at : ℕ} {o : Option ℕ} {u : Text} {byte : ℕ} {taken : List Text} {fits : Bool} {w w₂ : List ℕ} (n : RowNoted own row at o u byte taken fits w w₂) {start : Place} {len : ℕ} (open_at : IdsOpen own.ids own.columns start len) where
  abbrev first : List ℕ
  first = noted own.columns row at o w

  ids_below : {m : ℕ} → (0 < own.columns.rows → m ≤ end_of own.columns) → SameBelow m first w₂
  ids_below {m} h =
      rw n.is (notes_below first own.ids row u n.stars byte (λ i g. let y = open_at i g in let z = h y.some in (omega (arith, y.behind), omega (arith, y.behind_wanted))))

  pub row_below : {m : ℕ} → Behind own.columns m → SameBelow m w w₂
  row_below b = below_then (noted_below own.columns row at o w b) (ids_below (λ h. let z = b h in omega arith))

  pub row_held : {s : Text} {root : Element} {bytes : ℕ} → Room own.columns (length w) bytes → (row ≤ own.columns.rows → Held s root own.columns.at row w) → element_at s at ≡ task_at root row
      → row ≤ length (kept_tasks root) → o ≡ parent_of (map level_of (take row (kept_tasks root))) (level_of (task_at root row)) → row + 1 ≤ own.columns.rows → Held s root own.columns.at (row + 1) w₂
  row_held {root = root} r h e few i k =
      let z = r.room (omega arith) in
      held_kept (held_more own.columns row at o w (omega arith) z (h (omega arith)) e (i ∙ parents_are root row _ few))
      {m = end_of own.columns} (omega arith) (ids_below (λ h. omega arith))

-- ---- the words are cleared behind the table

cleared_end : (end e : ℕ) (w : List ℕ) → end ≡ min e (length w) → cleared end w ≡ cleared e w
cleared_end end e w h = by (dec_lt (length w) e)
  where
    by : Dec (length w < e) → cleared end w ≡ cleared e w
    by (yes k) =
        let z : end ≡ length w = omega arith in
        let n : length w - length w ≡ length w - e = omega arith in
        ap (λ (n : ℕ). cleared n w) z ∙ (λ i. (take-length w ∙ sym (take_all e w (omega arith))) i ++ replicate (n i) 0)
    by (no k) = let z : end ≡ e = omega arith in ap (λ (n : ℕ). cleared n w) z

pub cleared_behind : {end e : ℕ} {w w' : List ℕ} → SameBelow e w w' → end ≡ min e (length w) → {w'' : List ℕ} → w'' ≡ cleared end w' → w'' ≡ cleared e w
cleared_behind {end} {e} {w} {w'} x h i = i ∙ cleared_end end e w' (h ∙ ap (min e) (sym x.long)) ∙ cleared_same e w w' x.long x.words
