-- The work resources: how many there are, and one by one. Assumes nothing.
use Rattle.index.specs.declared.Table.{Table}
use Rattle.names.specs.declared.ids.Ids.{Ids}
use Rattle.std.proofs.Common.{◌≡◌, ℕ, ◌+◌, ◌%◌, ◌^◌, ◌<◌, ◌≤◌, Bool, true, false, ◌&&◌, leb, List, [], ◌∷◌, ◌++◌, map, length, ℤ, sym, refl, ap, ◌∙◌, subst, mod-eq_of_lt, arith, length-append, le-leb}
use Rattle.std.proofs.lemmas.List.{nil_from_length}
use Rattle.std.specs.Prelude.{Option, Some, None}
use Rattle.definition.specs.Base.{◌>>=◌, ◌or◌}
use Rattle.definition.specs.Text.{Text}
use Rattle.definition.specs.Ascii.{bytes}
use Rattle.definition.specs.Tree.{Element, all_in, child}
use Rattle.definition.specs.Field.{text_in}
use Rattle.definition.specs.Format.{whole}
use Rattle.definition.specs.Model.{Resource}
use Rattle.definition.specs.Pack.{resource}
use Rattle.definition.specs.Calendar.{name_of, free}
use Rattle.definition.specs.Refusal.{most_elements}
use Rattle.definition.specs.Task.{Context, unless_main}
use Rattle.definition.specs.Resource.{work_resources, resource_kind, max_units, price_of, resource_of, resources_after, resources}
use Rattle.laws.specs.Each.{Each}
use Rattle.laws.specs.Formats.{fills_whole}
use Rattle.laws.specs.FitRecords.{Short, FitsResourceBy}
use Rattle.laws.specs.FitTrees.{Small, keep_most}
use Rattle.bits.specs.Clear.{cleared}
use Rattle.bits.specs.Places.{inside}
use Rattle.bits.specs.Steps.{Puts, put_same}
use Rattle.index.specs.Below.{SameBelow}
use Rattle.bits.specs.declared.Place.{Place}
use Rattle.model.specs.declared.records.Kind.TheVariants.{Resources}
use Rattle.tree.specs.Few.{children_few}
use Rattle.tree.specs.Root.{root_at, in_resources}
use Rattle.tree.specs.declared.root.Root.{Root}
use Rattle.rows.specs.Turns.{work_picked}
use Rattle.rows.specs.Walks.{is_work}
use Rattle.pack.specs.Value.{starred_by}
use Rattle.pack.specs.Writes.{WritesIf, put_any, writes_if}
use Rattle.pack.specs.declared.record.Records.{Records}
use Rattle.names.specs.Texts.{texts_at}
use Rattle.names.specs.Cleared.{below_cleared, cleared_below, below_less}
use Rattle.names.specs.Context.{context_at, calendars_before}
use Rattle.names.specs.Ids.{ids_for, begun, noted_by, starred_in}
use Rattle.names.specs.Lent.{Behind, begun_open, begun_behind, begun_noted, begun_same, stars_free, notes_below, noted_row}
use Rattle.names.specs.Named.{named_in, Makes}
use Rattle.names.specs.Naming.{Finds, finds_kept, makes_finds, makes_behind, makes_below}
use Rattle.names.specs.Records.{resource_fields, same_resources, plain_resources_lem, front_resources, texts_resources}
use Rattle.names.specs.Sought.{end_names}
use Rattle.names.specs.Carried.{context_carried}
use Rattle.names.specs.Short.{built_short}
use Rattle.names.specs.declared.uids.CalendarTable.{CalendarTable}
use Rattle.assignments.specs.declared.section.Done.{Done}
use Rattle.assignments.specs.declared.resource.Section.{Section}
use Rattle.assignments.specs.Section.{Wrote}
use Rattle.assignments.specs.Resources.{wanted_id, resource_with, HeldIn, section_names, FewResources, Adds, PutsResources}
use Rattle.assignments.proofs.Turns.{wrote_none, wrote_more, wrote_as, writes, Going, going_all, going_more, going_end}
use Rattle.assignments.proofs.Fit.{each_head, each_rest, FineResources, fine_all, fine_on, fine_few}

-- ---- one

pub resource_is : (r : Element) (stars : ℕ) (calendar : Option Text) {id name unit : Text} {kind : ℕ} (units : ℤ) (price : Option ℤ)
    → id ≡ wanted_id r → name ≡ (text_in r "Name" or []) → kind ≡ resource_kind r → unit ≡ (text_in r "MaterialLabel" or []) → units ≡ max_units r → price ≡ price_of r
    → ◌≡◌ {A = Resource} record { id = starred_by id stars; name = name; kind = kind; unit = unit; max_units = units; calendar = calendar; price = price } (resource_with calendar (starred_by (wanted_id r) stars) r)
unfolding resource_with
resource_is r stars calendar units price a c d e f h = rw (ap (λ (t : Text). starred_by t stars) a, c, d, e, f, h)

-- with the id that is free, and the calendar's name by the context
resource_free : (x : Context) (ids : List Text) (r : Element) {n : Option Text} {id : Text} → n ≡ (text_in r "CalendarUID" >>= name_of x.built >>= unless_main x) → id ≡ free ids (wanted_id r)
    → resource_with n id r ≡ resource_of x ids r
unfolding resource_with resource_of
resource_free x ids r h e = rw (h, e)

-- the words say the name
name_found_lem : (x : Context) {s : Text} {k : Option Table} {w : List ℕ} → Finds x s k w → (o : Option Text) → (o >>= named_in x s w k) ≡ (o >>= name_of x.built >>= unless_main x)
name_found_lem x f None = refl
name_found_lem x f (Some u) = f.named u

-- ---- one after another

one_after : (x : Context) (xs : List Resource) (e : Element) → xs ++ (resource_of x (map (λ (d : Resource). d.id) xs) e ∷ []) ≡ resources_after x xs (e ∷ [])
unfolding resources_after
one_after x xs e = refl

more_resources : (x : Context) (e : Element) (l : List Element) (xs : List Resource) → resources_after x xs (e ∷ l) ≡ resources_after x (resources_after x xs (e ∷ [])) l
unfolding resources_after
more_resources x e l xs = refl

no_resources : (x : Context) (xs : List Resource) → resources_after x xs [] ≡ xs
unfolding resources_after
no_resources x xs = refl

-- ---- what is read in the buffer is what was put; past the end any record does

abbrev names_of : List Resource → List Text
names_of xs = map (λ (e : Resource). e.id) xs

count_is : {n k : ℕ} → n ≡ k % 2 ^ 64 → k < 2 ^ 32 → n ≡ k
count_is {n} {k} e h = e ∙ mod-eq_of_lt (omega arith)

low_is : {n k : ℕ} → n ≡ k → k < 2 ^ 32 → n % 2 ^ 32 ≡ k
low_is e h = rw e (mod-eq_of_lt h)

module _ (k : Section) {d : List ℕ} {r : Done} {d' : List ℕ} {q : Place} {r' : Done} (a : Element) (w w' : List ℕ) (stars : ℕ) {name : Option Text}
    (say : starred_by (wanted_id a) stars ≡ starred_in Resources d k.start r.next w k.ids (r.count % 2 ^ 32) (wanted_id a))
    (named : name ≡ (text_in a "CalendarUID" >>= section_names k d w)) (puts : Puts (whole resource) (resource_with name (starred_by (wanted_id a) stars) a) d r.next d' q)
    (notes : w' ≡ noted_by w k.ids (r.count % 2 ^ 32) (wanted_id a) stars (r.next.byte % 2 ^ 32))
    (n : (r'.count ≡ (r.count + 1) % 2 ^ 64) × (r'.next ≡ q)) where
  module _ (rows : ℕ) (d₀ : List ℕ) (xs : List Resource) (ok : FewResources k w rows 1 d₀ xs) (held : HeldIn k.ids k.start d w r) (wrote : Wrote (whole resource) true xs d₀ k.start d r) where
    few : length xs < rows
    few = omega (arith, ok.room)

    short : length xs < 2 ^ 32
    short = omega (arith, few, ok.few)

    count_now : r.count ≡ length xs
    count_now = count_is (wrote.counts refl) short

    low_now : r.count % 2 ^ 32 ≡ length xs
    low_now = low_is count_now short

    made : Resource
    made = resource_of (context_at d₀ k.calendars (root_at k.root)) (names_of xs) a

    module _ (i : inside (length d) r.next ≡ true) where
      texts_are : texts_at Resources d k.start (length xs) ≡ names_of xs
      texts_are = texts_resources (length xs) wrote.puts i ok.fit

      stars_are : starred_by (wanted_id a) stars ≡ free (texts_at Resources d k.start (length xs)) (wanted_id a)
      stars_are =
          say ∙ ap (λ (i : ℕ). starred_in Resources d k.start r.next w k.ids i (wanted_id a)) low_now ∙ stars_free (rw count_now at (held.noted i)) r.next i (wanted_id a)

    put_made : Puts (whole resource) made d r.next d' q
    unfolding made
    put_made = by_end (inside (length d) r.next) refl
      where
        by_end : (i : Bool) → inside (length d) r.next ≡ i → Puts (whole resource) (resource_of (context_at d₀ k.calendars (root_at k.root)) (names_of xs) a) d r.next d' q
        by_end false i = put_any _ i puts
        by_end true i =
            let x = context_at d₀ k.calendars (root_at k.root) in
            let y : name ≡ (text_in a "CalendarUID" >>= name_of x.built >>= unless_main x) =
            named ∙ ap (λ (x : Context). text_in a "CalendarUID" >>= named_in x k.root.tree.now w k.calendar_names) (context_carried wrote.puts.step k.calendars (root_at k.root) ok.stand) ∙ name_found_lem x ok.finds (text_in a "CalendarUID") in
            put_same (resource_free x (names_of xs) a y (stars_are i ∙ ap (λ (ids : List Text). free ids (wanted_id a)) (texts_are i))) puts

    wrote_made : Wrote (whole resource) true (xs ++ (made ∷ [])) d₀ k.start d' r'
    wrote_made = wrote_more wrote put_made n

    after_is : xs ++ (made ∷ []) ≡ resources_after (context_at d₀ k.calendars (root_at k.root)) xs (a ∷ [])
    unfolding made
    after_is = one_after (context_at d₀ k.calendars (root_at k.root)) xs a

    id_made : inside (length d) r.next ≡ true → made.id ≡ starred_by (wanted_id a) stars
    unfolding made resource_of
    id_made i = sym (stars_are i ∙ ap (λ (ids : List Text). free ids (wanted_id a)) (texts_are i))

    holds_made : Each (FitsResourceBy Short) (xs ++ (made ∷ [])) → HeldIn k.ids k.start d' w' r'
    holds_made f = record {
      opened = rw puts.step.same held.opened;
      noted = λ there.
          let l = length-append xs (made ∷ []) in
          let count : r'.count ≡ length xs + 1 = count_is (wrote_made.counts refl) (omega (arith, few, ok.few)) ∙ l in
          rw count (noted_row (whole resource) plain_resources_lem front_resources resource_fields same_resources (fills_whole resource) held.opened (λ i. rw count_now at (held.noted i)) f (length xs) wrote.puts put_made
          (wanted_id a) stars (λ i. (stars_are i, id_made i)) (rw low_now at notes) (rw n.1 at there));
    }

  adds_work : Adds k a d w r d' w' r'
  adds_work = record {
    adds = λ rows. record { goes = λ d₀ xs ok wrote. wrote_as (after_is rows d₀ xs ok.0 ok.1 wrote) (wrote_made rows d₀ xs ok.0 ok.1 wrote) };
    holds = λ rows d₀ xs ok held wrote f. holds_made rows d₀ xs ok held wrote (subst (Each (FitsResourceBy Short)) (sym (after_is rows d₀ xs ok held wrote)) f);
    keeps = λ from h. ap (cleared from) notes ∙ cleared_below (notes_below w k.ids (r.count % 2 ^ 32) (wanted_id a) stars (r.next.byte % 2 ^ 32) h);
  }

-- ---- what the callees say, about the element's own texts

pub adds_said : (k : Section) {d : List ℕ} {r : Done} {d' : List ℕ} {q : Place} {r' : Done} (a : Element) (w : List ℕ) {w' : List ℕ}
    → {id : Text} (stars : ℕ) → id ≡ wanted_id a → starred_by id stars ≡ starred_in Resources d k.start r.next w k.ids (r.count % 2 ^ 32) id
    → (name : Option Text) → name ≡ (text_in a "CalendarUID" >>= section_names k d w)
    → {x : Resource} → x ≡ resource_with name (starred_by (wanted_id a) stars) a → Puts (whole resource) x d r.next d' q
    → w' ≡ noted_by w k.ids (r.count % 2 ^ 32) id stars (r.next.byte % 2 ^ 32) → (r'.count ≡ (r.count + 1) % 2 ^ 64) × (r'.next ≡ q) → Adds k a d w r d' w' r'
adds_said k {d} {r} a w {w'} stars ei es name en ex puts notes n =
    adds_work k a w w' stars (subst (λ (u : Text). starred_by u stars ≡ starred_in Resources d k.start r.next w k.ids (r.count % 2 ^ 32) u) ei es) en (put_same ex puts)
    (notes ∙ ap (λ (u : Text). noted_by w k.ids (r.count % 2 ^ 32) u stars (r.next.byte % 2 ^ 32)) ei) n

-- ---- a loop over elements

-- some are done, and those of fs are left
abbrev GoingOn : ℕ → Context → List Element → List Element → List ℕ → Place → List ℕ → Done → Type 0
GoingOn rows x es fs = Going (whole resource) true (resources_after x) (FineResources rows fs) es fs

-- in a buffer in which the calendars stand, with words that say their names before those of the ids
pub record Going-in (k : Section) (es fs : List Element) (d w d' w' : List ℕ) (r : Done) : Type 0 where
  pub going : calendars_before d k.calendars (root_at k.root) k.start ≡ true → length es ≤ most_elements → HeldIn k.ids k.start d w (record { count = 0; next = k.start })
      → Finds (context_at d k.calendars (root_at k.root)) k.root.tree.now k.calendar_names w → Behind (end_names k.calendar_names) k.ids
      → GoingOn (length es) (context_at d k.calendars (root_at k.root)) es fs d k.start d' r × HeldIn k.ids k.start d' w' r
  pub keeps : (from : ℕ) → Behind from k.ids → cleared from w' ≡ cleared from w
  pub small : Each Small fs

module _ (k : Section) {es : List Element} {d w : List ℕ} where
  pub go_all : {fs : List Element} → fs ≡ es → Each Small es → Going-in k es fs d w d w (record { count = 0; next = k.start })
  go_all e s = record { going = λ b h held f l. (going_all e (fine_all es (ap length e) h), held); keeps = λ from h. refl; small = rw e s }

  module _ {e : Element} {l fs : List Element} {d1 w1 : List ℕ} {r1 : Done} {d2 w2 : List ℕ} {r2 : Done} (z : l ≡ e ∷ fs) (g' : Going-in k es l d w d1 w1 r1) (h : Adds k e d1 w1 r1 d2 w2 r2) where
    g : Going-in k es (e ∷ fs) d w d1 w1 r1
    g = subst (λ (l : List Element). Going-in k es l d w d1 w1 r1) z g'

    -- the words still say the names
    finds_now : Finds (context_at d k.calendars (root_at k.root)) k.root.tree.now k.calendar_names w → Behind (end_names k.calendar_names) k.ids → Finds (context_at d k.calendars (root_at k.root)) k.root.tree.now k.calendar_names w1
    finds_now f b = finds_kept (below_cleared (g.keeps (end_names k.calendar_names) b)) f

    pub go_more : Small (root_at k.root) → Going-in k es fs d w d2 w2 r2
    unfolding context_at
    go_more small = record {
      going = λ b n held f l.
          let x = context_at d k.calendars (root_at k.root) in
          let rows = length es in
          let (go, now) = g.going b n held f l in
          let few : (xs : List Resource) → FineResources rows (e ∷ fs) xs → FewResources k w1 rows 1 d xs = fine_few k e fs b (finds_now f l) in
          let short = built_short d k.calendars small in
          let on : (xs : List Resource) → FineResources rows (e ∷ fs) xs → FineResources rows fs (resources_after x xs (e ∷ [])) = fine_on x short fs (each_head g.small) in (
            going_more go (h.adds rows) (λ xs i. (few xs i, now)) (more_resources x e fs) on,
            h.holds rows d go.done (few go.done go.fine) now go.wrote (on go.done go.fine).fit,
          );
      keeps = λ from l. h.keeps from l ∙ g.keeps from l;
      small = each_rest g.small;
    }

  pub go_end : {fs : List Element} {d' w' : List ℕ} {r : Done} → Going-in k es fs d w d' w' r → fs ≡ [] → es ≡ work_resources (root_at k.root) → PutsResources k d w d' w' r
  unfolding resources
  go_end g e z = record {
    puts = λ b n held f l. let x = context_at d k.calendars (root_at k.root) in wrote_as (ap (resources_after x []) z) (going_end (g.going b (rw z n) held f l).0 e (no_resources x));
    keeps = g.keeps;
  }

-- ---- the tables

behind_less : {from to : ℕ} → from ≤ to → {m : Option Ids} → Behind to m → Behind from m
behind_less k h i e = let (a, b) = h i e in (omega arith, omega arith)

-- ---- all

pub work_few : (root : Root) → length (work_resources (root_at root)) ≤ length root.tree.now
work_few root =
    let es = all_in (child (root_at root) (bytes "Resources")) (bytes "Resource") in
    let f : length es ≤ length root.tree.now = rw (in_resources root (bytes "Resource")) (children_few root.tree.now root.resources (bytes "Resource")) in
    rw (← work_picked (root_at root)) (omega (arith, f, keep_most is_work es))

module _ (d : List ℕ) (c : Place) (root : Root) (p : Place) {n : ℕ} {u : Bool} (count : n ≡ length (work_resources (root_at root))) (eu : u ≡ calendars_before d c (root_at root) p) where
  abbrev e : Element
  e = root_at root

  pub resources_all : n ≤ most_elements → u ≡ true → {from : ℕ} {t : CalendarTable} {m : Option Ids} {w w₁ w₂ w₃ d' : List ℕ} {r : Done} {a : Records}
      → Makes d c root.tree.now e from w w₁ t → (m ≡ ids_for (length d) p (length w₁) t.end n) × (w₂ ≡ begun w₁ m)
      → PutsResources (record { root = root; calendars = c; start = p; calendar_names = t.table; ids = m }) d w₂ d' w₃ r → (a.count ≡ r.count % 2 ^ 32) × (a.next ≡ r.next)
      → WritesIf (leb (length (work_resources e)) most_elements && calendars_before d c e p) (whole resource) (resources (context_at d c e) e) d p d' a × (cleared from w₃ ≡ cleared from w)
  resources_all few eb {from} {t} {m} {w} {w₁} {w₂} i (j, v) g o =
      let most : length (work_resources e) ≤ most_elements = omega arith in
      let stand : calendars_before d c e p ≡ true = sym eu ∙ eb in
      let held : HeldIn m p d w₂ (record { count = 0; next = p }) = record { opened = begun_open (length d) p w₁ t.end n j; noted = λ there. rw v (begun_noted (length d) p w₁ t.end n j Resources d) } in
      let behind = begun_behind (length d) p w₁ t.end n j in
      let (at, end) = makes_behind i in
      let ids : SameBelow t.end w₁ w₂ = rw v (begun_same (length d) p w₁ t.end n j (λ l h. omega arith)) in
      let found = finds_kept (below_less end ids) (makes_finds i) in (
        writes_if (whole resource) (rw (le-leb _ _ most, stand)) (writes (g.puts stand most held found (behind_less end behind)) o),
        g.keeps from (behind_less at behind) ∙ cleared_below (below_less at ids) ∙ cleared_below (makes_below i),
      )

  -- there are none
  pub resources_none : n ≡ 0 → u ≡ true → {a : Records} → a ≡ record { count = 0; next = p }
      → WritesIf (leb (length (work_resources e)) most_elements && calendars_before d c e p) (whole resource) (resources (context_at d c e) e) d p d a
  unfolding resources resources_after
  resources_none z eb i =
      let none : work_resources e ≡ [] = nil_from_length (work_resources e) (sym count ∙ z) in
      let stand : calendars_before d c e p ≡ true = sym eu ∙ eb in
      writes_if (whole resource) (rw (none, stand)) (rw (i, none) (writes wrote_none (refl, refl)))
