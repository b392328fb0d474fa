-- Calendars built one after another behind each other; the default one, the main one and the elapsed one. Assumes nothing.
use Rattle.std.specs.Prelude.{if◌then◌else◌}
use Rattle.names.specs.declared.ids.Ids.{Ids}
use Rattle.std.proofs.Common.{◌≡◌, ℕ, suc, ◌+◌, ◌%◌, ◌^◌, ◌<◌, ◌≤◌, Bool, true, false, not, ◌&&◌, eqb, leb, List, ◌∷◌, ◌++◌, map, length, take, drop, sym, refl, ap, ◌∙◌, subst, true≢false, append_assoc, append-nil, arith, length-append, le-leb, []}
use mathlib.Core.List.{map-append}
use Rattle.std.specs.Prelude.{Option, Some, None}
use Rattle.std.specs.Prelude.{slice_get}
use lib.ListN.{length-map}
use Rattle.definition.specs.Base.{◌>>=◌, ◌or◌, ◌or_else◌, given, keep, first, same, some?}
use Rattle.definition.specs.Bits.{pad}
use Rattle.definition.specs.Text.{Text}
use Rattle.definition.specs.Field.{text_in}
use Rattle.definition.specs.Tree.{Element}
use Rattle.definition.specs.Format.{whole}
use Rattle.definition.specs.Model.{Calendar}
use Rattle.definition.specs.Pack.{calendar}
use Rattle.definition.specs.Read.{calendars_of}
use Rattle.definition.specs.Refusal.{most_elements}
use Rattle.definition.specs.Task.{context_of, kept_tasks, is_elapsed}
use Rattle.definition.specs.Calendar.{Named, base_of, with_uid, build, built_calendars, main_calendar, calendar_elements, calendar_of, renamed, free, default_calendar, elapsed_calendar}
use Rattle.laws.specs.Each.{Each, empty, next, each_append, each_front}
use Rattle.laws.specs.Formats.{fills_whole}
use Rattle.bits.specs.Clear.{cleared}
use Rattle.bits.specs.Places.{at, place, inside, room_fits}
use Rattle.bits.specs.Reads.{Reads, rest_in}
use Rattle.bits.specs.Steps.{Puts, put_same, put_no, put_more}
use Rattle.bits.specs.declared.Place.{Place}
use Rattle.index.specs.Below.{SameBelow, below_then}
use Rattle.model.specs.Parts.{calendar_parts, raw, text_by}
use Rattle.model.specs.Places.{CalendarAt}
use Rattle.model.specs.Splits.{split-⊗}
use Rattle.model.specs.declared.parts.CalendarPlaces.{CalendarPlaces}
use Rattle.model.specs.declared.records.Kind.TheVariants.{Calendars}
use Rattle.pack.specs.Value.{starred_by}
use Rattle.pack.specs.Writes.{Writes, WritesIf, put_any, writes_if}
use Rattle.pack.specs.declared.record.Records.{Records}
use Rattle.tree.specs.Root.{root_at}
use Rattle.tree.specs.declared.root.Root.{Root}
use Rattle.tree.specs.declared.element.Element.{Element as Of}
use Rattle.rows.specs.Rows.{in_order, main_in, calendar_meaning}
use Rattle.names.specs.Context.{wanted_name}
use Rattle.names.specs.Cleared.{below_cleared, cleared_below, below_less}
use Rattle.names.specs.Ids.{ids_for, begun, end_ids, noted_by, starred_in, place_in}
use Rattle.names.specs.Lent.{NotedIn, begun_open, begun_behind, begun_before, begun_noted, begun_same, stars_free, place_is, noted_below, notes_below, noted_row}
use Rattle.names.specs.Sought.{uids_kept, uids_find, uids_behind, uids_below}
use Rattle.names.specs.Texts.{texts_at, place_of_row}
use Rattle.names.specs.Uids.{MakesUids, calendar_by}
use Rattle.names.specs.declared.uids.CalendarTable.{CalendarTable}
use Rattle.laws.specs.FitLists.{each_keep}
use Rattle.laws.specs.FitRecords.{Short, FitsCalendarBy, CalendarParts}
use Rattle.laws.proofs.FitRecords.{good_calendar_parts}
use Rattle.laws.specs.FitTrees.{Small, holds_calendars, slim_texts}
use Rattle.laws.specs.FitNames.{Distinct, calendars_in, names_in, keep_both, names_are, others}
use Rattle.laws.proofs.FitNames.{built_distinct}
use Rattle.laws.specs.FitCalendars.{FitsNamedBy}
use Rattle.laws.proofs.FitCalendars.{fit_build}
use Rattle.names.specs.Kept.{There, there_at, there_inside, there_split, there_reads, reads_there}
use Rattle.names.specs.Records.{calendar_fields, same_calendars, front_calendars, plain_calendars, plain_calendars_lem, good_raw, parted, calendars_lie, Lies, row_reads, texts_calendars}
use Rattle.calendars.specs.declared.built.Section.{Section}
use Rattle.calendars.specs.Base.{Based, BaseIs}
use Rattle.calendars.specs.Record.{PutsCalendar}
use Rattle.calendars.proofs.Orders.{get_out, get_in, built_in_order, built_more, made, of_length, found_base, base_given, no_base, main_row_lem, main_none}
use Rattle.calendars.proofs.Turning.{put_times}
use Rattle.calendars.specs.Built.{Stand, built_of, row_or, found_or, Finds, BaseFound, base_in, BaseIn, Laid, Held, none_yet, Begins, Adds, AddsAll, or_default, AddsDefault, PutsBuilt, turned, TurnsBy, TurnsMain, elapsed_in, AddsElapsed}

-- ---- what is built fits

each_calendars : {built : List Named} → Each (FitsNamedBy Short) built → Each (FitsCalendarBy Short) (calendars_in built)
each_calendars empty = empty
each_calendars (next {x = n} h hs) = next {x = n.1} h (each_calendars hs)

order_small : {root : Element} → Small root → Each Small (in_order root)
unfolding in_order
order_small h = each_append (each_keep _ (holds_calendars h)) (each_keep _ (holds_calendars h))

order_length : (root : Element) → length (in_order root) ≡ length (calendar_elements root)
unfolding in_order
order_length root = length-append (keep (λ e. not (given (base_of e))) (calendar_elements root)) _ ∙ keep_both (λ e. given (base_of e)) (calendar_elements root)

fits_done : (root : Element) (done todo : List Element) → Small root → length (in_order root) ≤ most_elements → in_order root ≡ done ++ todo → Each (FitsCalendarBy Short) (built_of done)
fits_done root done todo h few e =
    let k : length done ≤ 5000000 = omega (arith, ap length e ∙ length-append done todo) in
    each_calendars (fit_build slim_texts {built = []} {es = done} empty (each_front done todo (rw e at (order_small h))) (omega arith))

-- ---- the base of one

-- a record that stands before a place is a base there
row_based : {r : CalendarPlaces} {d : List ℕ} {m e q : Place} {c : Calendar} → There d m (plain_calendars.put (at m) (calendar_fields c)) e → at e ≤ at q → CalendarParts Short (calendar_fields c) → CalendarAt d m r → Based r d q c
unfolding whole calendar_parts text_by
row_based {r} {d} {m} {e} {q} {c} t le fit a =
    let b = (calendar_parts raw).put (at m) (calendar_fields c) in
    let (x, y) = there_split b (pad (at m + length b)) t in
    let end = place (at m + length b) in
    let all : Reads (calendar_parts raw) d m (calendar_fields c) end = there_reads (good_calendar_parts good_raw) fit x in
    let inner = there_inside x in
    let here = rest_in d end (room_fits (length d) end 0 inner) in
    let (s0, s1) = split-⊗ here all a.name in
    let (s2, s3) = split-⊗ here s1 a.week in
    let (s4, s5) = split-⊗ here s3 a.hours in
    record { week = s2; hours = s4; lists = record { end = end; reads = s5; inner = inner; before = omega (arith, there_at y, le) } }

module _ {m : Option Ids} {start : Place} {count : ℕ} {d w : List ℕ} where
  -- a row that is not built
  pub row_none : {row : ℕ} → count ≤ row → Finds (λ cs. row_or cs row) m start count d w None
  unfolding BaseIs
  row_none {row} le = record { finds = λ d₀ cs q noted fit s i. ap (λ (o : Option Calendar). o or default_calendar) (get_out cs row (omega (arith, s.counts))) }

  -- that of a row
  pub row_at : {row : ℕ} {p : Place} {r : CalendarPlaces} → row < count → p ≡ place_in Calendars d start w m count row → CalendarAt d p r → Finds (λ cs. row_or cs row) m start count d w (Some r)
  unfolding BaseIs
  row_at {row} {p} {r} lt em a = record {
    finds = λ d₀ cs q noted fit s i.
        let (c, g) = get_in cs row (omega (arith, s.counts)) in
        let (us, vs, z, n) = parted cs row c g in
        let all : Lies plain_calendars (CalendarParts Short) d start (map calendar_fields us ++ (calendar_fields c ∷ map calendar_fields vs)) q = rw (z, map-append calendar_fields us (c ∷ vs)) at (calendars_lie (length cs) s.puts i fit) in
        let (e, h, ie, le) = row_reads plain_calendars_lem (map calendar_fields us) (calendar_fields c) (map calendar_fields vs) all in
        let k : place_of_row Calendars d start (length (map calendar_fields us)) ≡ p = ap (place_of_row Calendars d start) (length-map us calendar_fields ∙ n) ∙ sym (em ∙ place_is noted row lt) in
        let (f, t) = reads_there plain_calendars_lem.good h ie in
        let v : row_or cs row ≡ c = ap (λ (o : Option Calendar). o or default_calendar) g in
        subst (λ c. Based r d q c) (sym v) (row_based (rw k at t) le f a);
  }

  pub base_absent : BaseFound None m start count d w None
  unfolding BaseIs
  base_absent = record { finds = λ d₀ cs q noted fit s i. refl }

module _ (s : Text) (root e : Element) (t : Section) (start : Place) (count : ℕ) (d w : List ℕ) where
  pub base_none : given (base_of e) ≡ false → BaseIn s root e t start count d w None
  unfolding BaseIs
  base_none h = record { finds = λ d₀ done todo q z f noted fit st i. ap (λ (o : Option Text). (o >>= λ u. with_uid u (build [] done)) or default_calendar) (no_base e h) }

pub base_found : (s : Text) {root e : Element} {t : Section} {start : Place} {count : ℕ} {d w : List ℕ} {b : Option CalendarPlaces} → given (base_of e) ≡ true → (found : Option (ℕ × Of)) {u : Text} → u ≡ (text_in e "BaseCalendarUID" or [])
    → calendar_meaning found ≡ calendar_by s root w t.uids u → BaseFound found t.ids start count d w b → BaseIn s root e t start count d w b
base_found s {root} {e} {t} {start} {count} {d} {w} {b} g found {u} j m h = record {
  finds = λ d₀ done todo q z f noted fit st i.
      let v = text_in e "BaseCalendarUID" or [] in
      let y : base_in done e ≡ found_or (built_of done) found =
      ap (λ (o : Option Text). (o >>= λ u. with_uid u (build [] done)) or default_calendar) (base_given e g) ∙ found_base root v done todo z found (m ∙ ap (calendar_by s root w t.uids) j ∙ f.found v) in
      subst (λ c. BaseIs b d q c) (sym y) (h.finds d₀ (built_of done) q noted fit st i);
}

-- ---- one more

stand_more : {cs : List Calendar} {d₀ : List ℕ} {start : Place} {d : List ℕ} {r : Records} {c : Calendar} {d' : List ℕ} {r' : Records} → Stand cs d₀ start d r → Puts (whole calendar) c d r.next d' r'.next
    → r'.count ≡ r.count + 1 → Stand (cs ++ (c ∷ [])) d₀ start d' r'
stand_more {cs} {c = c} s x n = record {
  puts = put_times (length cs) (length (cs ++ (c ∷ []))) (whole calendar) (put_more (length cs) s.puts x);
  counts = n ∙ ap (λ (k : ℕ). k + 1) s.counts ∙ sym (length-append cs (c ∷ []));
}

-- the elements so far and the next one
record Turn (s : Text) (root e : Element) (t : Section) (start : Place) (d w : List ℕ) (r : Records) (d₀ : List ℕ) (done todo : List Element) : Type 0 where
  small : Small root
  few : length (in_order root) ≤ most_elements
  laid : Laid t
  order : in_order root ≡ done ++ ((e ∷ []) ++ todo)
  held : Held s root t start d w r
  stand : Stand (built_of done) d₀ start d r

module _ {s : Text} {root e : Element} {t : Section} {start : Place} {d w : List ℕ} {r : Records} (stars : ℕ) {b : Option CalendarPlaces} {d' : List ℕ} {q : Place}
    (st : starred_by (wanted_name e) stars ≡ starred_in Calendars d start r.next w t.ids r.count (wanted_name e)) (base : BaseIn s root e t start r.count d w b) (put : PutsCalendar e stars b d r.next d' q) where
  module _ {d₀ : List ℕ} {done todo : List Element} (x : Turn s root e t start d w r d₀ done todo) where
    fits_now : Each (FitsCalendarBy Short) (built_of done)
    fits_now = fits_done root done ((e ∷ []) ++ todo) x.small x.few x.order

    few_done : length done ≤ 4999999
    few_done = omega (arith, ap length x.order ∙ length-append done ((e ∷ []) ++ todo), length-append (e ∷ []) todo, x.few)

    module _ (i : inside (length d) r.next ≡ true) where
      names_are_now : texts_at Calendars d start (length (built_of done)) ≡ names_in (build [] done)
      names_are_now = texts_calendars (length (built_of done)) x.stand.puts i fits_now ∙ names_are (build [] done)

      noted_now : NotedIn Calendars t.ids d start w (length (built_of done))
      noted_now = rw x.stand.counts at (x.held.noted i)

      free_now : starred_by (wanted_name e) stars ≡ free (texts_at Calendars d start (length (built_of done))) (wanted_name e)
      free_now = rw x.stand.counts at st ∙ stars_free noted_now r.next i (wanted_name e)

      name_now : free (names_in (build [] done)) (wanted_name e) ≡ starred_by (wanted_name e) stars
      name_now = sym (free_now ∙ ap (λ (l : List Text). free l (wanted_name e)) names_are_now)

    next_put : Puts (whole calendar) (made done e) d r.next d' q
    unfolding calendar_of
    next_put = by (inside (length d) r.next) refl
      where
        by : (b : Bool) → inside (length d) r.next ≡ b → Puts (whole calendar) (made done e) d r.next d' q
        by false i = put_any (made done e) i (put.puts (base_in done e) (λ j. absurd (true≢false (sym j ∙ i))))
        by true i =
            let c = base_in done e in
            put_same (ap (λ (n : Text). renamed n (calendar_of e c)) (sym (name_now i))) (put.puts c (λ j. base.finds d₀ done ((e ∷ []) ++ todo) r.next x.order x.held.found (x.held.noted i) fits_now x.stand i))

    fits_next : Each (FitsCalendarBy Short) (built_of done ++ (made done e ∷ []))
    fits_next = rw (built_more done e) at (fits_done root (done ++ (e ∷ [])) todo x.small x.few (x.order ∙ sym (append_assoc done (e ∷ []) todo)))

    name_made : (made done e).name ≡ free (names_in (build [] done)) (wanted_name e)
    unfolding calendar_of
    name_made = refl

    -- the words after it
    module _ (w₁ : List ℕ) {w₂ : List ℕ} {r' : Records} (free_words : cleared t.from w₁ ≡ cleared t.from w) (notes : w₂ ≡ noted_by w₁ t.ids r.count (wanted_name e) stars (r.next.byte % 2 ^ 32)) (n : r'.count ≡ (r.count + 1) % 2 ^ 32)
        (z : r'.next ≡ q) where
      count_next : r'.count ≡ length (built_of done) + 1
      count_next = n ∙ omega (arith, x.stand.counts, of_length done, few_done)

      stand_next : Stand (built_of (done ++ (e ∷ []))) d₀ start d' r'
      stand_next = rw (built_more done e) (stand_more x.stand (rw z next_put) (count_next ∙ ap (λ (k : ℕ). k + 1) (sym x.stand.counts)))

      below_first : SameBelow t.from w w₁
      below_first = below_cleared free_words

      held_next : Held s root t start d' w₂ r'
      held_next = record {
        found = uids_kept (below_then (below_less x.laid.uids below_first) (rw notes (notes_below w₁ t.ids r.count (wanted_name e) stars (r.next.byte % 2 ^ 32) x.laid.behind))) x.held.found;
        opened = rw next_put.step.same x.held.opened;
        noted = λ there.
            rw count_next
            (noted_row (whole calendar) plain_calendars_lem front_calendars calendar_fields same_calendars (fills_whole calendar) x.held.opened (λ i. noted_below x.laid.before below_first (noted_now i)) fits_next
            (length (built_of done)) x.stand.puts next_put (wanted_name e) stars (λ i. (free_now i, name_made ∙ name_now i)) (rw x.stand.counts at notes) (rw z at there));
      }

  pub adds_one : (w₁ : List ℕ) {w₂ : List ℕ} {r' : Records} → cleared t.from w₁ ≡ cleared t.from w → w₂ ≡ noted_by w₁ t.ids r.count (wanted_name e) stars (r.next.byte % 2 ^ 32) → r'.count ≡ (r.count + 1) % 2 ^ 32
      → r'.next ≡ q → Adds s root (e ∷ []) t start d w r d' w₂ r'
  adds_one w₁ c notes n z = record {
    adds = λ small few laid d₀ done todo o held stand.
        let x : Turn s root e t start d w r d₀ done todo = record { small = small; few = few; laid = laid; order = o; held = held; stand = stand } in
        (stand_next x w₁ c notes n z, held_next x w₁ c notes n z);
    keeps = λ at (a, b). ap (cleared at) notes ∙ cleared_below (notes_below w₁ t.ids r.count (wanted_name e) stars (r.next.byte % 2 ^ 32) b) ∙ cleared_below (below_less a (below_cleared c));
  }

-- as the callees say it, about the text that was asked for
pub adds_said : {s : Text} {root e : Element} {t : Section} {start : Place} {d w : List ℕ} {r : Records} (stars : ℕ) {b : Option CalendarPlaces} {d' : List ℕ} {q : Place} {name : Text} → name ≡ wanted_name e
    → starred_by name stars ≡ starred_in Calendars d start r.next w t.ids r.count name → BaseIn s root e t start r.count d w b → PutsCalendar e stars b d r.next d' q
    → (w₁ : List ℕ) {w₂ : List ℕ} {r' : Records} → cleared t.from w₁ ≡ cleared t.from w → w₂ ≡ noted_by w₁ t.ids r.count name stars (r.next.byte % 2 ^ 32) → r'.count ≡ (r.count + 1) % 2 ^ 32 → r'.next ≡ q
    → Adds s root (e ∷ []) t start d w r d' w₂ r'
adds_said {t = t} {start} {d} {w} {r} stars i st base put w₁ c notes n z =
    adds_one stars (subst (λ (u : Text). starred_by u stars ≡ starred_in Calendars d start r.next w t.ids r.count u) i st) base put w₁ c
    (notes ∙ ap (λ (u : Text). noted_by w₁ t.ids r.count u stars (r.next.byte % 2 ^ 32)) i) n z

-- ---- one after another

pub adds_none : (s : Text) (root : Element) (t : Section) (start : Place) (d w : List ℕ) (r : Records) → Adds s root [] t start d w r d w r
adds_none s root t start d w r = record { adds = λ small few laid d₀ done todo z h st. rw (append-nil done) (st, h); keeps = λ at h. refl }

module _ {s : Text} {root : Element} {t : Section} {start : Place} {d w : List ℕ} {r : Records} {d' w' : List ℕ} {r' : Records} where
  pub adds_both : (xs ys : List Element) {d'' w'' : List ℕ} {r'' : Records} → Adds s root xs t start d w r d' w' r' → Adds s root ys t start d' w' r' d'' w'' r'' → Adds s root (xs ++ ys) t start d w r d'' w'' r''
  adds_both xs ys h i = record {
    adds = λ small few laid d₀ done todo z held st.
        let (a, b) = h.adds small few laid d₀ done (ys ++ todo) (z ∙ ap (λ (l : List Element). done ++ l) (append_assoc xs ys todo)) held st in
        let c = i.adds small few laid d₀ (done ++ xs) todo (z ∙ ap (λ (l : List Element). done ++ l) (append_assoc xs ys todo) ∙ sym (append_assoc done xs (ys ++ todo))) b a in
        rw (← append_assoc done xs ys) c;
    keeps = λ at l. i.keeps at l ∙ h.keeps at l;
  }

-- what is built so far, and what is left of the order
pub record Sofar (s : Text) (root : Element) (t : Section) (start : Place) (d₀ w₀ : List ℕ) (left : List Element) (d w : List ℕ) (r : Records) : Type 0 where
  done : List Element
  is : in_order root ≡ done ++ left
  adds : Adds s root done t start d₀ w₀ (none_yet start) d w r

module _ {s : Text} {root : Element} {t : Section} {start : Place} {d₀ w₀ : List ℕ} where
  pub sofar_none : {left : List Element} → in_order root ≡ left → Sofar s root t start d₀ w₀ left d₀ w₀ (none_yet start)
  sofar_none e = record { done = []; is = e; adds = adds_none s root t start d₀ w₀ (none_yet start) }

  pub sofar_more : {all : List Element} {e : Element} {left : List Element} {d w : List ℕ} {r : Records} {d' w' : List ℕ} {r' : Records} → all ≡ e ∷ left → Sofar s root t start d₀ w₀ all d w r → Adds s root (e ∷ []) t start d w r d' w' r'
      → Sofar s root t start d₀ w₀ left d' w' r'
  sofar_more {e = e} {left} z x a = record { done = x.done ++ (e ∷ []); is = x.is ∙ ap (λ (l : List Element). x.done ++ l) z ∙ sym (append_assoc x.done (e ∷ []) left); adds = adds_both x.done (e ∷ []) x.adds a }

  pub sofar_all : {left : List Element} {d w : List ℕ} {r : Records} → left ≡ [] → Sofar s root t start d₀ w₀ left d w r → AddsAll s root t start d₀ w₀ d w r
  unfolding build
  sofar_all z x = record {
    adds = λ small few laid held.
        let e : in_order root ≡ x.done = x.is ∙ ap (λ (l : List Element). x.done ++ l) z ∙ append-nil x.done in
        rw e (x.adds.adds small few laid d₀ [] [] (e ∙ sym (append-nil x.done)) held (record { puts = put_no 0 (whole calendar) d₀ start; counts = refl })).0;
    keeps = x.adds.keeps;
  }

-- ---- the default one

pub default_put : {d : List ℕ} {r : Records} {d' : List ℕ} {q : Place} → r.count ≡ 0 → Puts (whole calendar) default_calendar d r.next d' q → AddsDefault d r d' record { count = (r.count + 1) % 2 ^ 32; next = q }
default_put {d} {r} {d'} {q} h x = record { adds = λ d₀ start cs s. by_list cs s }
  where
    by_list : {d₀ : List ℕ} {start : Place} (cs : List Calendar) → Stand cs d₀ start d r → Stand (or_default cs) d₀ start d' record { count = (r.count + 1) % 2 ^ 32; next = q }
    by_list [] s = stand_more s x (omega (arith, h))
    by_list (c ∷ cs) s = absurd (omega (arith, s.counts))

-- the tables, before the first one
pub tables_begin : (root : Root) {d : List ℕ} {start : Place} {at : ℕ} {w w₁ w₂ : List ℕ} {u : CalendarTable} {m : Option Ids} (rows : ℕ) {from : ℕ} → MakesUids root.tree.now (root_at root) at w w₁ u
    → (m ≡ ids_for (length d) start (length w₁) u.end rows) × (w₂ ≡ begun w₁ m) → from ≡ end_ids m u.end (length w₂) → Begins root.tree.now (root_at root) d start at w w₂ (record { root = root; start = start; uids = u.table; ids = m; from = from })
tables_begin root {d} {start} {w = w} {w₁} {w₂} {u} {m} rows i (j, v) z =
    let (first, end) = uids_behind i in
    let behind = begun_behind (length d) start w₁ u.end rows j in
    let ids : SameBelow u.end w₁ w₂ = rw v (begun_same (length d) start w₁ u.end rows j (λ l h. omega arith)) in
    let (upto, before) = begun_before (length d) start w₁ u.end rows j (z ∙ ap (end_ids m u.end) ids.long) in
    record {
      laid = record { uids = omega arith; behind = λ l h. let (a, b) = behind l h in (omega arith, omega arith); before = before };
      held = record {
        found = uids_kept (below_less end ids) (uids_find i);
        opened = begun_open (length d) start w₁ u.end rows j;
        noted = λ there. rw v (begun_noted (length d) start w₁ u.end rows j Calendars d);
      };
      from = (omega arith, λ l h. let (a, b) = behind l h in (omega arith, omega arith));
      keeps = cleared_below (below_less first ids) ∙ cleared_below (uids_below i);
    }

pub built_put : {s : Text} {root : Element} {t : Section} {at : ℕ} {d : List ℕ} {p : Place} {w w1 w2 d1 : List ℕ} {r1 : Records} {d2 : List ℕ} {r2 : Records} → Begins s root d p at w w1 t → AddsAll s root t p d w1 d1 w2 r1 → AddsDefault d1 r1 d2 r2
    → PutsBuilt root d p d2 r2 × (cleared at w2 ≡ cleared at w)
built_put {root = root} {at = at} {d} {p} b a f = (
  record { stand = λ small few. rw (built_in_order root) (f.adds d p (built_of (in_order root)) (a.adds small few b.laid b.held)) },
  a.keeps at b.from ∙ b.keeps,
)

-- ---- the main one first

abbrev main_first : Element → List Calendar
main_first root = main_calendar root (built_calendars root) ∷ keep (λ (c : Calendar). not (same c.name (main_calendar root (built_calendars root)).name)) (calendars_in (built_calendars root))

or_same : (cs : List Calendar) (row : ℕ) (c : Calendar) → slice_get cs row ≡ Some c → or_default cs ≡ cs
or_same [] row c g = let z : ◌≡◌ {A = ℕ} 0 1 = cc in absurd (omega arith)
or_same (x ∷ cs) row c g = refl

or_length : (cs : List Calendar) → length (or_default cs) ≤ suc (length cs)
or_length [] = omega arith
or_length (x ∷ cs) = omega arith

main_default : (root : Element) → main_calendar root [] ≡ default_calendar
unfolding main_calendar first keep
main_default root = by_uid (text_in root "CalendarUID")
  where
    by_uid : (o : Option Text) → (((o >>= λ u. with_uid u []) or_else None) or default_calendar) ≡ default_calendar
    by_uid None = refl
    by_uid (Some u) = refl

pub main_first_lem : (root : Element) (found : Option (ℕ × Element)) → found ≡ main_in root → Small root → length (in_order root) ≤ most_elements → {d₀ : List ℕ} {start : Place} {d : List ℕ} {r : Records} {d' : List ℕ}
    → start.bit % 8 ≡ 0 → Stand (or_default (calendars_in (built_calendars root))) d₀ start d r → TurnsBy found start d d' → Stand (main_first root) d₀ start d' r
unfolding TurnsBy build keep
main_first_lem root (Some (row, x)) m small few {d₀} {start} {d} {r} {d'} b st t =
    let w : built_calendars root ≡ build [] (in_order root) = built_in_order root in
    let cs = calendars_in (built_calendars root) in
    let c = main_calendar root (built_calendars root) in
    let g : slice_get cs row ≡ Some c = rw w (main_row_lem root row _ (sym m)) in
    let fit : Each (FitsCalendarBy Short) cs = rw w (fits_done root (in_order root) [] small few (sym (append-nil (in_order root)))) in
    let o : keep (λ (x : Calendar). not (same x.name c.name)) cs ≡ take row cs ++ drop (suc row) cs = others cs row c (subst Distinct (sym (names_are (built_calendars root))) (built_distinct root)) g in
    let few'' : length cs ≤ 5000000 = rw w (omega (arith, of_length (in_order root))) in
    let y : Stand (turned cs row c) d₀ start d' r = t.turns b d₀ cs c r few'' fit g (rw (or_same cs row c g) at st) in
    subst (λ l. Stand (c ∷ l) d₀ start d' r) (sym o) y
main_first_lem root None m small few {d₀} {start} {d} {r} {d'} b st t =
    let none_built : built_calendars root ≡ [] = built_in_order root ∙ ap (build []) (main_none root (sym m)) in
    let st' : Stand (default_calendar ∷ []) d₀ start d r = rw none_built at st in
    rw (t, none_built, main_default root) st'

-- ---- the elapsed one

module _ (root : Element) {d : List ℕ} {r : Records} where
  pub elapsed_put : some? is_elapsed (kept_tasks root) ≡ true → {d' : List ℕ} {r' : Records} → Puts (whole calendar) elapsed_calendar d r.next d' r'.next → r'.count ≡ (r.count + 1) % 2 ^ 32 → AddsElapsed root d r d' r'
  elapsed_put h x n = record { adds = λ d₀ start cs le s. rw h (stand_more s x (n ∙ omega (arith, s.counts))) }

elapsed_length : (root : Element) → length (elapsed_in root) ≤ 1
elapsed_length root = by_test (some? is_elapsed (kept_tasks root))
  where
    by_test : (t : Bool) → length (if t then elapsed_calendar ∷ [] else []) ≤ 1
    by_test true = omega arith
    by_test false = omega arith

-- ---- the whole

pub calendars_written : (root : Element) → Small root → length (calendar_elements root) ≤ most_elements → {d : List ℕ} {p : Place} {d1 : List ℕ} {r : Records} {d2 d3 : List ℕ} {r' : Records}
    → p.bit % 8 ≡ 0 → PutsBuilt root d p d1 r → TurnsMain root p d1 d2 → AddsElapsed root d2 r d3 r' → Writes (whole calendar) (calendars_of (context_of root)) d p d3 r'
unfolding calendars_of context_of
calendars_written root small few {d} {p} b built t e =
    let len = order_length root in
    let few' : length (in_order root) ≤ most_elements = rw len few in
    let x = built.stand small few' in
    let y = main_first_lem root (main_in root) refl small few' b x t in
    let n : length (calendars_in (built_calendars root)) ≡ length (in_order root) = rw (built_in_order root) (of_length (in_order root)) in
    let o = or_length (calendars_in (built_calendars root)) in
    let k : length (main_first root) ≤ 5000001 = omega (arith, x.counts, y.counts) in
    let z = e.adds d p (main_first root) (omega arith) y in
    let l = length-append (main_first root) (elapsed_in root) in
    record { puts = z.puts; counts = z.counts ∙ omega (arith, elapsed_length root) }

module _ (root : Element) {d : List ℕ} {p : Place} {n : ℕ} (is : n ≡ length (calendar_elements root)) where
  pub calendars_if : Small root → n ≤ 5000000 → p.bit % 8 ≡ 0 → {d1 : List ℕ} {r : Records} {d2 d3 : List ℕ} {r' : Records}
      → PutsBuilt root d p d1 r → TurnsMain root p d1 d2 → AddsElapsed root d2 r d3 r' → WritesIf (leb (length (calendar_elements root)) most_elements && eqb (p.bit % 8) 0) (whole calendar) (calendars_of (context_of root)) d p d3 r'
  calendars_if small k begins built t el =
      let few : length (calendar_elements root) ≤ most_elements = omega arith in
      writes_if (whole calendar) (rw (le-leb _ _ few, begins)) (calendars_written root small few begins built t el)
