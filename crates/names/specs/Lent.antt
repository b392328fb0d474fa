-- The ids of a section that is written, over its kind: what the tables say in the lent words is what a look at all records gives, with tables or with
-- none. Assumes nothing.
use Rattle.std.specs.Prelude.{if◌then◌else◌, ◌≡◌, Bool, ◌&&◌, List, [], ◌∷◌, ◌++◌, map, ℕ, ◌+◌, ◌%◌, ◌^◌, ◌≤◌, ◌<◌, length}
use Rattle.std.specs.Prelude.{None, Option, Some}
use Rattle.std.proofs.Math.Path.{refl}
use Rattle.std.proofs.Common.{sym, ap, ◌∙◌, mod-eq_of_lt, arith, length-append}
use Rattle.std.proofs.Math.Bool.{true, false}
use Rattle.std.proofs.lemmas.List.{map-append, length-map}
use Rattle.std.proofs.Math.Dec.{ltb, leb, eqb}
use borrow.Author.Tests.{ltb-false, leb-true, eqb-true}
use Rattle.definition.specs.Text.{Text}
use Rattle.definition.specs.Format.{Format, times}
use Rattle.definition.specs.Calendar.{free}
use Rattle.laws.specs.Each.{Each, each_front}
use Rattle.laws.specs.Formats.{Fills, fills_times}
use Rattle.bits.specs.Places.{inside, fits_room}
use Rattle.bits.specs.Round.{put_stood}
use Rattle.bits.specs.Steps.{Puts, before_in, put_more}
use Rattle.bits.specs.declared.Place.{Place}
use Rattle.index.specs.Below.{SameBelow, below_refl, below_then, below_zeros, below_added, below_in}
use Rattle.index.specs.Chains.{place_of, end_of}
use Rattle.index.specs.Frame.{SameIn, indexed_kept}
use Rattle.model.specs.declared.records.Kind.{Kind}
use Rattle.pack.specs.Value.{starred_by}
use Rattle.names.specs.Texts.{place_of_row, texts_at}
use Rattle.names.specs.Kept.{step_kept, put_ends}
use Rattle.names.specs.Records.{Plain, Fronts, Lies, put_lies}
use Rattle.names.specs.Ids.{ids_of, noted, free_in, ids_for, begun, end_ids, noted_by, free_by, starred_in, place_in}
use Rattle.names.specs.Noted.{Noted, ids_placed, noted_none, noted_free, noted_place, noted_put}
use Rattle.names.specs.declared.ids.Ids.{Ids}

-- ---- what the words hold

-- each record begins at a whole byte, and 32 bits hold where
abbrev pub OpenIn : Option Ids → Place → ℕ → Type 0
OpenIn m start len = (i : Ids) → m ≡ Some i → (start.bit ≡ 0) × (len < 2 ^ 32)

-- the ids of the first records at a place are there, where there are words for so many
abbrev pub NotedIn : Kind → Option Ids → List ℕ → Place → List ℕ → ℕ → Type 0
NotedIn kind m d start w n = (i : Ids) → m ≡ Some i → n ≤ i.ids.rows → Noted kind d start w i n

-- the tables stand behind a place
abbrev pub Behind : ℕ → Option Ids → Type 0
Behind from m = (i : Ids) → m ≡ Some i → (from ≤ i.ids.at) × (from ≤ i.wanted.at)

-- and before one
abbrev pub Before : Option Ids → ℕ → Type 0
Before m to = (i : Ids) → m ≡ Some i → (end_of i.ids ≤ to) × (end_of i.wanted ≤ to)

no_ids_lem : {A : Type 0} {i : Ids} → None ≡ Some i → A
no_ids_lem e = let y : ◌≡◌ {A = ℕ} 0 1 = cc in absurd (omega arith)

-- ---- none yet

module _ (bytes : ℕ) (start : Place) (w : List ℕ) (at rows : ℕ) {m : Option Ids} (e : m ≡ ids_for bytes start (length w) at rows) where
  abbrev Begun : Ids → Type 0
  Begun i = (start.bit ≡ 0) × (bytes < 2 ^ 32) × (Some i ≡ ids_of (length w) at rows)

  ids_are : (i : Ids) → m ≡ Some i → Begun i
  unfolding ids_for
  ids_are i h = go (eqb start.bit 0) (leb bytes 4294967295) refl refl (sym h ∙ e)
    where
      go : (a b : Bool) → eqb start.bit 0 ≡ a → leb bytes 4294967295 ≡ b → Some i ≡ (if a && b then ids_of (length w) at rows else None) → Begun i
      go true true f g z = (eqb-true start.bit 0 f, omega (arith, leb-true bytes 4294967295 g), z)
      go true false f g z = no_ids_lem (sym z)
      go false b f g z = no_ids_lem (sym z)

  pub begun_open : OpenIn m start bytes
  begun_open i h = let x = ids_are i h in (x.0, x.1)

  pub begun_behind : Behind at m
  begun_behind i h = let x = (ids_placed (length w) at rows (ids_are i h).2).0 in (omega (arith, x.begin), omega (arith, x.begin, x.apart))

  pub begun_rows : (i : Ids) → m ≡ Some i → (0 < rows) × (i.ids.rows ≡ rows)
  begun_rows i h = let x = ids_placed (length w) at rows (ids_are i h).2 in (omega (arith, x.0.ids.some, x.1), x.1)

  pub begun_before : {to : ℕ} → to ≡ end_ids m at (length w) → (at ≤ to) × Before m to
  begun_before {to} z = go m refl z
    where
      go : (n : Option Ids) → m ≡ n → to ≡ end_ids n at (length w) → (at ≤ to) × Before n to
      go None h z = (omega arith, λ i k. no_ids_lem k)
      go (Some i) h z =
          let x = (ids_placed (length w) at rows (ids_are i h).2).0 in
          let long = x.wanted.room in
          (omega (arith, x.begin, x.apart), λ j k. let y : i ≡ j = cc in rw (← y) (omega (arith, x.apart), omega arith))

  pub begun_noted : (kind : Kind) (d : List ℕ) → NotedIn kind m d start (begun w m) 0
  begun_noted kind d i h few = rw h (noted_none kind d start w (ids_placed (length w) at rows (ids_are i h).2).0)

  pub begun_same : {n : ℕ} → ((i : Ids) → m ≡ Some i → n ≤ at) → SameBelow n w (begun w m)
  begun_same {n} k = go m refl
    where
      go : (l : Option Ids) → m ≡ l → SameBelow n w (begun w l)
      go None h = below_refl n w
      go (Some i) h =
          let (a, b) = begun_behind i h in
          let l = k i h in
          below_then (below_zeros i.ids w (omega arith)) (below_zeros i.wanted _ (omega arith))

-- ---- what is read of them

module _ {kind : Kind} {m : Option Ids} {d : List ℕ} {start : Place} {w : List ℕ} {n : ℕ} (x : NotedIn kind m d start w n) where
  pub stars_free : (p : Place) → inside (length d) p ≡ true → (u : Text) → starred_in kind d start p w m n u ≡ free (texts_at kind d start n) u
  unfolding starred_in
  stars_free p i u = rw i (go m x)
    where
      go : (m : Option Ids) → NotedIn kind m d start w n → free_by kind d start w m n u ≡ free (texts_at kind d start n) u
      go None x = refl
      go (Some i) x = by (ltb i.ids.rows n) refl
        where
          by : (b : Bool) → ltb i.ids.rows n ≡ b → (if b then free (texts_at kind d start n) u else starred_by u (free_in d w i n u)) ≡ free (texts_at kind d start n) u
          by true e = refl
          by false e = noted_free (x i refl (ltb-false i.ids.rows n e)) u

  pub place_is : (r : ℕ) → r < n → place_in kind d start w m n r ≡ place_of_row kind d start r
  unfolding place_in
  place_is r h = go m x
    where
      go : (m : Option Ids) → NotedIn kind m d start w n → place_in kind d start w m n r ≡ place_of_row kind d start r
      go None x = refl
      go (Some i) x = by (ltb i.ids.rows n) refl
        where
          by : (b : Bool) → ltb i.ids.rows n ≡ b → (if b then place_of_row kind d start r else record { byte = place_of w i.ids r; bit = 0 }) ≡ place_of_row kind d start r
          by true e = refl
          by false e = noted_place (x i refl (ltb-false i.ids.rows n e)) r h

-- ---- other words changed

module _ {kind : Kind} {m : Option Ids} {d : List ℕ} {start : Place} {w w' : List ℕ} {n : ℕ} where
  pub noted_words : ((i : Ids) → m ≡ Some i → SameIn i.ids w w' × SameIn i.wanted w w') → NotedIn kind m d start w n → NotedIn kind m d start w' n
  noted_words s h i e few =
      let x = h i e few in
      let (a, b) = s i e in
      record {
        wanted = x.wanted;
        stars = x.stars;
        by_id = indexed_kept a x.by_id;
        by_wanted = indexed_kept b x.by_wanted;
        apart = x.apart;
        even = x.even;
        whole = x.whole;
        is = x.is;
        taken = x.taken;
      }

  pub noted_below : {to : ℕ} → Before m to → SameBelow to w w' → NotedIn kind m d start w n → NotedIn kind m d start w' n
  noted_below b s = noted_words (λ i e. let (x, y) = b i e in (below_in s x, below_in s y))

-- those before the tables stay
pub notes_below : {from : ℕ} (w : List ℕ) (m : Option Ids) (row : ℕ) (u : Text) (stars byte : ℕ) → Behind from m → SameBelow from w (noted_by w m row u stars byte)
notes_below {from} w None row u stars byte h = below_refl from w
notes_below w (Some i) row u stars byte h =
    let (a, b) = h i refl in
    below_then (below_added i.ids w row _ byte a) (below_added i.wanted _ row _ stars b)

-- ---- one more record was put behind the section, and noted

module _ {kind : Kind} {A B : Type 0} (f : Format A) {g : Format B} {G : B → Type 0} {front : B → Text} (k : Plain kind g G) (fronts : Fronts g front) (from : A → B)
    (same : (n : ℕ) (a : A) → f.put n a ≡ g.put n (from a)) (fills : Fills f) {m : Option Ids} {d₀ d d' : List ℕ} {start q q' : Place} {xs : List A} {y : A} where
  pub noted_row : OpenIn m start (length d) → {w : List ℕ} → (inside (length d) q ≡ true → NotedIn kind m d start w (length xs)) → Each (λ x. G (from x)) (xs ++ (y ∷ []))
      → (many : ℕ) → Puts (times many f) xs d₀ start d q → Puts f y d q d' q' → (u : Text) (stars : ℕ)
      → (inside (length d) q ≡ true → (starred_by u stars ≡ free (texts_at kind d start (length xs)) u) × (front (from y) ≡ starred_by u stars))
      → {w' : List ℕ} → w' ≡ noted_by w m (length xs) u stars (q.byte % 2 ^ 32) → inside (length d') q' ≡ true → NotedIn kind m d' start w' (length xs + 1)
  noted_row open_at {w} before_it fit many puts put u stars say {w'} e there i h few =
      let b = (put_stood put there).began in
      let here : inside (length d) q ≡ true = fits_room {n = length d} {p = q} {w = 0} (record { bit = b.bit; ends = omega (arith, b.ends) }) in
      let (whole, short) = open_at i h in
      let (free_is, front-is) = say here in
      let n : length (map from xs) ≡ length xs = length-map xs from in
      let byte : q.byte % 2 ^ 32 ≡ q.byte = mod-eq_of_lt (omega (arith, b.ends, short)) in
      let made : w' ≡ noted w i (length (map from xs)) u stars q.byte = e ∙ rw (h, byte, n) in
      let lies = put_lies f g {G = G} from same many puts here (each_front xs (y ∷ []) fit) in
      let lies' : Lies g G d' start (map from xs ++ (from y ∷ [])) q' = rw (map-append from xs (y ∷ [])) at (put_lies f g {G = G} from same _ (put_more many puts put) there fit) in
      let x = noted_put k fronts (rw n (before_it here i h (omega arith))) (omega (arith, n)) lies lies' (step_kept put.step) (omega (arith, before_in (length d) q b))
      (put_ends (fills_times many fills) puts here whole) u stars (rw n free_is) front-is made in
      rw (length-append (map from xs) (from y ∷ []) ∙ ap (λ (j : ℕ). j + 1) n) at x
