-- The law of the tables of ids: where the rows of a list in the buffer were noted, so many `*` are free as the tables say. Assumes nothing.
use Rattle.std.specs.Prelude.{if◌then◌else◌, ◌≡◌, refl, Bool, true, false, ◌&&◌, ◌||◌, List, [], ◌∷◌, ◌++◌, map, ℕ, zero, suc, ◌+◌, ◌-◌, ◌*◌, ◌≤◌, ◌<◌, min, ltb, leb, take, get_or}
use Rattle.std.proofs.Math.Path.{sym, ap}
use Rattle.std.proofs.Common.{◌∙◌, add-one, arith, ltb-true, leb-true, length-take, length-append, get_or-take, ext_get_or}
use Rattle.std.specs.Prelude.{Option, Some, None}
use Rattle.std.proofs.Math.Decide.{dec_lt}
use Rattle.std.proofs.Math.ListN.{length}
use Rattle.definition.specs.Base.{◌>>=◌, ◌or◌, ◌or_else◌, when, given, find, find_last, count, same, some?}
use Rattle.definition.specs.Text.{Text}
use Rattle.definition.specs.Format.{Format}
use Rattle.definition.specs.Calendar.{free}
use Rattle.laws.specs.Same.{same_eq}
use Rattle.bits.specs.Clear.{cleared}
use Rattle.bits.specs.Places.{at, inside}
use Rattle.bits.specs.declared.Place.{Place}
use Rattle.index.specs.Hash.{hash_of}
use Rattle.index.specs.Chains.{zeros, added, place_of, chain_of, end_of}
use Rattle.index.specs.Steps.{length_zeros}
use Rattle.index.specs.Last.{last_below}
use Rattle.index.proofs.Last.{last_yes, last_no, last_in}
use Rattle.index.specs.Law.{Fits, Indexed}
use Rattle.index.proofs.Law.{indexed_none, indexed_by, indexed_same, find_like}
use Rattle.index.specs.With.{with, with_here, with_before, one_more}
use Rattle.index.specs.Frame.{apart_before, apart_behind, same_added, same_zeros, indexed_kept}
use Rattle.model.specs.Answers.{read_at}
use Rattle.model.specs.Parts.{raw}
use Rattle.model.specs.declared.records.Kind.{Kind}
use Rattle.pack.specs.Value.{starred_by}
use Rattle.names.specs.Texts.{place_of_row, text_at, texts_at}
use Rattle.names.specs.Seen.{texts_length}
use Rattle.names.specs.Kept.{Kept, there_inside}
use Rattle.names.specs.Records.{Plain, Fronts, Lies, place_last, text_front, place_kept, row_kept, texts_kept, text_kept}
use Rattle.names.specs.Stars.{star_same, TakenTo, taken_free, tries, tries_free}
use Rattle.names.specs.Ids.{ids_of, no_ids, noted, id_at, is_id, wants, behind, taken_in, stars_from, free_in}
use Rattle.names.specs.declared.ids.Ids.{Ids}

-- ---- one of some rows

given_else : (o : Option ℕ) (b : Bool) (r : ℕ) → given (o or_else when b r) ≡ (b || given o)
given_else None true r = refl
given_else None false r = refl
given_else (Some s) true r = refl
given_else (Some s) false r = refl

some_counted : (q : Text → Bool) (f : ℕ → Text) (a n : ℕ) → some? q (map f (count a n)) ≡ given (find_last (λ r. q (f r)) (count a n))
unfolding some? count find_last
some_counted q f a zero = refl
some_counted q f a (suc n) =
    ap (λ (b : Bool). q (f a) || b) (some_counted q f (suc a) n) ∙ sym (given_else (find_last (λ r. q (f r)) (count (suc a) n)) (q (f a)) a)

last_later : (p : ℕ → Bool) (n : ℕ) → given (last_below p n) ≡ true → given (last_below p (suc n)) ≡ true
last_later p n h = by (p n) refl
  where
    by : (b : Bool) → p n ≡ b → given (last_below p (suc n)) ≡ true
    by true e = ap given (last_yes p n e)
    by false e = ap given (last_no p n e) ∙ h

last_there : (p : ℕ → Bool) (n r : ℕ) → r < n → p r ≡ true → given (last_below p n) ≡ true
last_there p zero r h e = absurd (omega arith)
last_there p (suc n) r h e = by (dec_lt r n) (λ k. last_there p n r k e)
  where
    by : Dec (r < n) → (r < n → given (last_below p n) ≡ true) → given (last_below p (suc n)) ≡ true
    by (yes k) there = last_later p n (there k)
    by (no k) there = let z : r ≡ n = omega arith in ap given (last_yes p n (ap p (sym z) ∙ e))

module _ (kind : Kind) (d : List ℕ) (p : Place) (q : Text → Bool) (n : ℕ) where
  some_last : some? q (texts_at kind d p n) ≡ given (last_below (λ r. q (text_at kind d p r)) n)
  unfolding texts_at
  some_last = some_counted q (text_at kind d p) 0 n

  some_there : (r : ℕ) → r < n → q (text_at kind d p r) ≡ true → some? q (texts_at kind d p n) ≡ true
  some_there r h e = some_last ∙ last_there (λ r. q (text_at kind d p r)) n r h e

some_later : (kind : Kind) (d : List ℕ) (p : Place) (q : Text → Bool) (n : ℕ) → some? q (texts_at kind d p n) ≡ true → some? q (texts_at kind d p (suc n)) ≡ true
some_later kind d p q n h = some_last kind d p q (suc n) ∙ last_later (λ r. q (text_at kind d p r)) n (sym (some_last kind d p q n) ∙ h)

-- ---- tables that were placed

pub record Placed (from len : ℕ) (i : Ids) : Type 0 where
  pub ids : Fits i.ids len
  pub wanted : Fits i.wanted len
  pub begin : i.ids.at ≡ from
  pub apart : end_of i.ids ≤ i.wanted.at
  pub even : i.wanted.rows ≡ i.ids.rows

abbrev tables_from : ℕ → ℕ → Ids
tables_from from rows = record { ids = record { at = from; rows = rows }; wanted = record { at = from + 3 * rows; rows = rows } }

pub ids_placed : (len from rows : ℕ) {i : Ids} → Some i ≡ ids_of len from rows → Placed from len i × (i.ids.rows ≡ rows)
unfolding ids_of
ids_placed len from rows {i} e = by (ltb 0 rows) (leb (from + 6 * rows) len) refl refl e
  where
    by : (a b : Bool) → ltb 0 rows ≡ a → leb (from + 6 * rows) len ≡ b → Some i ≡ (if a && b then Some (tables_from from rows) else None) → Placed from len i × (i.ids.rows ≡ rows)
    by true true g h e =
        let z : i ≡ tables_from from rows = cc in
        let k : 0 < rows = ltb-true 0 rows g in
        let l : from + 6 * rows ≤ len = leb-true (from + 6 * rows) len h in
        rw z (record { ids = record { some = k; room = omega arith }; wanted = record { some = k; room = omega arith }; begin = refl; apart = omega arith; even = refl }, refl)
    by true false g h e = let y : ◌≡◌ {A = ℕ} 0 1 = cc in absurd (omega arith)
    by false b g h e = let y : ◌≡◌ {A = ℕ} 0 1 = cc in absurd (omega arith)

-- ---- the first n records of a list at a place, in both tables

pub record Noted (kind : Kind) (d : List ℕ) (p : Place) (w : List ℕ) (i : Ids) (n : ℕ) : Type 0 where
  pub wanted : ℕ → Text
  pub stars : ℕ → ℕ
  pub by_id : Indexed i.ids (λ r. hash_of (text_at kind d p r)) (λ r. (place_of_row kind d p r).byte) n w
  pub by_wanted : Indexed i.wanted (λ r. hash_of (wanted r)) stars n w
  pub apart : end_of i.ids ≤ i.wanted.at
  pub even : i.wanted.rows ≡ i.ids.rows
  -- each record begins at a whole byte, with its wanted text and so many `*`, and with fewer that text is taken
  pub whole : (r : ℕ) → r < n → (place_of_row kind d p r).bit ≡ 0
  pub is : (r : ℕ) → r < n → text_at kind d p r ≡ starred_by (wanted r) (stars r)
  pub taken : (r : ℕ) → r < n → TakenTo (texts_at kind d p n) (wanted r) (stars r)

-- ---- none yet

pub noted_none : (kind : Kind) (d : List ℕ) (p : Place) (w : List ℕ) {from : ℕ} {i : Ids} → Placed from (length w) i → Noted kind d p (no_ids w i) i 0
noted_none kind d p w {i = i} x = record {
  wanted = λ r. [];
  stars = λ r. 0;
  by_id = indexed_kept (same_zeros i.wanted (zeros w i.ids.at i.ids.rows) (apart_before i.ids i.wanted x.apart)) (indexed_none _ _ w x.ids);
  by_wanted = indexed_none _ _ (zeros w i.ids.at i.ids.rows) (rw (length_zeros w i.ids.at i.ids.rows) x.wanted);
  apart = x.apart;
  even = x.even;
  whole = λ r h. absurd (omega arith);
  is = λ r h. absurd (omega arith);
  taken = λ r h. absurd (omega arith);
}

-- ---- what is read of them

byte_place : (q : Place) {byte : ℕ} → byte ≡ q.byte → q.bit ≡ 0 → record { byte = byte; bit = 0 } ≡ q
byte_place q e b = λ j. record { byte = e j; bit = sym b j }

behind_most : (k n : ℕ) → behind k n ≤ suc k
behind_most k n = by (ltb k n)
  where
    by : (b : Bool) → (if b then suc k else k) ≤ suc k
    by true = omega arith
    by false = omega arith

module _ {kind : Kind} {d : List ℕ} {p : Place} {w : List ℕ} {i : Ids} {n : ℕ} (x : Noted kind d p w i n) where
  id_is : (r : ℕ) → r < n → id_at d w i r ≡ text_at kind d p r
  unfolding text_at
  id_is r h = ap (λ (q : Place). (read_at raw d q).0 or []) (byte_place (place_of_row kind d p r) (x.by_id.places r h) (x.whole r h))

  abbrev names : List Text
  names = texts_at kind d p n

  taken_is : (u : Text) (k : ℕ) → taken_in d w i u k ≡ some? (same (starred_by u k)) names
  unfolding taken_in
  taken_is u k =
      ap given (find_like x.by_id (is_id d w i u k) (λ r. same (starred_by u k) (text_at kind d p r)) (hash_of (starred_by u k)) (λ r h. ap (same (starred_by u k)) (id_is r h))
      (λ r h e. ap hash_of (sym (same_eq (starred_by u k) (text_at kind d p r) e))))
      ∙ sym (some_last kind d p (same (starred_by u k)) n)

  -- the row wanted the text
  module _ (u : Text) where
    wanted_is : (r : ℕ) → r < n → same (starred_by u (x.stars r)) (text_at kind d p r) ≡ true → u ≡ x.wanted r
    wanted_is r h e = star_same u (x.wanted r) (x.stars r) (same_eq (starred_by u (x.stars r)) (text_at kind d p r) e ∙ x.is r h)

    wants_is : (r : ℕ) → r < n → wants d w i u r ≡ same (starred_by u (x.stars r)) (text_at kind d p r)
    wants_is r h = ap (λ (k : ℕ). same (starred_by u k) (id_at d w i r)) (x.by_wanted.places r h) ∙ ap (same (starred_by u (x.stars r))) (id_is r h)

    taken_behind : (r : ℕ) → r < n → same (starred_by u (x.stars r)) (text_at kind d p r) ≡ true → TakenTo names u (suc (x.stars r))
    taken_behind r h e j l = by (dec_lt j (x.stars r))
      where
        by : Dec (j < x.stars r) → some? (same (starred_by u j)) names ≡ true
        by (yes k) = ap (λ (t : Text). some? (same (starred_by t j)) names) (wanted_is r h e) ∙ x.taken r h j k
        by (no k) = let z : j ≡ x.stars r = omega arith in some_there kind d p (same (starred_by u j)) n r h (ap (λ (m : ℕ). same (starred_by u m) (text_at kind d p r)) z ∙ e)

    taken_from : TakenTo names u (stars_from d w i n u)
    unfolding stars_from
    taken_from =
        by (find (wants d w i u) (chain_of w i.wanted (hash_of u)))
        (find_like x.by_wanted (wants d w i u) (λ r. same (starred_by u (x.stars r)) (text_at kind d p r)) (hash_of u) wants_is (λ r h e. ap hash_of (sym (wanted_is r h e))))
      where
        by : (o : Option ℕ) → o ≡ last_below (λ r. same (starred_by u (x.stars r)) (text_at kind d p r)) n → TakenTo names u ((o >>= λ r. Some (behind (place_of w i.wanted r) n)) or 0)
        by None e j l = absurd (omega arith)
        by (Some r) e j l =
            let (h, g) = last_in (λ r. same (starred_by u (x.stars r)) (text_at kind d p r)) n (sym e) in
            taken_behind r h g j (omega (arith, behind_most (place_of w i.wanted r) n, x.by_wanted.places r h))

  -- THE LAW
  pub noted_free : (u : Text) → starred_by u (free_in d w i n u) ≡ free names u
  unfolding free_in
  noted_free u =
      let l : length names ≡ n = texts_length kind d p n in
      let k = stars_from d w i n u in
      ap (λ (m : ℕ). starred_by u (tries (m - k) (taken_in d w i u) k)) (sym l) ∙ tries_free names u (taken_in d w i u) (taken_is u) k (taken_from u)

  -- where a row stands
  pub noted_place : (r : ℕ) → r < n → record { byte = place_of w i.ids r; bit = 0 } ≡ place_of_row kind d p r
  noted_place r h = byte_place (place_of_row kind d p r) (x.by_id.places r h) (x.whole r h)

-- ---- a row was noted; others were written behind the list

module _ {kind : Kind} {d : List ℕ} {p : Place} {w : List ℕ} {i : Ids} {n : ℕ} (x : Noted kind d p w i n) where
  module _ (few : n < i.ids.rows) (u : Text) (k byte : ℕ) (f : starred_by u k ≡ free (texts_at kind d p n) u) (t : text_at kind d p n ≡ starred_by u k)
      (q : place_of_row kind d p n ≡ record { byte = byte; bit = 0 }) where
    abbrev first : List ℕ
    first = added w i.ids n (hash_of (starred_by u k)) byte

    more_id : Indexed i.ids (λ r. hash_of (text_at kind d p r)) (λ r. (place_of_row kind d p r).byte) (suc n) (noted w i n u k byte)
    more_id =
        indexed_kept (same_added i.wanted first n (hash_of u) k (apart_before i.ids i.wanted x.apart))
        (rw (add-one n) at (indexed_by x.by_id few (ap hash_of (sym t)) (ap (λ (q : Place). q.byte) (sym q)) refl))

    more_wanted : Indexed i.wanted (λ r. hash_of (with x.wanted n u r)) (with x.stars n k) (suc n) (noted w i n u k byte)
    more_wanted =
        let y = indexed_kept (same_added i.ids w n (hash_of (starred_by u k)) byte (apart_behind i.wanted i.ids x.apart)) x.by_wanted in
        let z = indexed_same y (λ r h. ap hash_of (sym (with_before x.wanted n u r h))) (λ r h. sym (with_before x.stars n k r h)) in
        rw (add-one n) at (indexed_by z (omega (arith, x.even)) (ap hash_of (sym (with_here x.wanted n u))) (sym (with_here x.stars n k)) refl)

    more_is : (r : ℕ) → r < suc n → text_at kind d p r ≡ starred_by (with x.wanted n u r) (with x.stars n k r)
    more_is =
        one_more (λ r. text_at kind d p r ≡ starred_by (with x.wanted n u r) (with x.stars n k r)) n
        (λ r h. rw (with_before x.wanted n u r h, with_before x.stars n k r h) (x.is r h))
        (rw (with_here x.wanted n u, with_here x.stars n k) t)

    more_taken : (r : ℕ) → r < suc n → TakenTo (texts_at kind d p (suc n)) (with x.wanted n u r) (with x.stars n k r)
    more_taken =
        one_more (λ r. TakenTo (texts_at kind d p (suc n)) (with x.wanted n u r) (with x.stars n k r)) n
        (λ r h. rw (with_before x.wanted n u r h, with_before x.stars n k r h) (λ j l. some_later kind d p _ n (x.taken r h j l)))
        (rw (with_here x.wanted n u, with_here x.stars n k) (λ j l. some_later kind d p _ n (taken_free (texts_at kind d p n) u k f j l)))

    pub noted_more : {w' : List ℕ} → w' ≡ noted w i n u k byte → Noted kind d p w' i (suc n)
    noted_more e = rw e (record {
      wanted = with x.wanted n u;
      stars = with x.stars n k;
      by_id = more_id;
      by_wanted = more_wanted;
      apart = x.apart;
      even = x.even;
      whole = one_more (λ r. (place_of_row kind d p r).bit ≡ 0) n x.whole (ap (λ (q : Place). q.bit) q);
      is = more_is;
      taken = more_taken;
    })

  pub noted_kept : {B : Type 0} {g : Format B} {G : B → Type 0} {front : B → Text} → Plain kind g G → Fronts g front → {m : ℕ} {d' : List ℕ} → Kept m d d'
      → inside (length d) (place_of_row kind d p n) ≡ true → at (place_of_row kind d p n) ≤ m → Noted kind d' p w i n
  noted_kept k f {d' = d'} s h l = record {
    wanted = x.wanted;
    stars = x.stars;
    by_id = indexed_same x.by_id (λ r j. ap hash_of (sym (text_kept k s p n h l f r j))) (λ r j. ap (λ (q : Place). q.byte) (sym (row_kept k s p n h l r j)));
    by_wanted = x.by_wanted;
    apart = x.apart;
    even = x.even;
    whole = λ r j. ap (λ (q : Place). q.bit) (row_kept k s p n h l r j) ∙ x.whole r j;
    is = λ r j. text_kept k s p n h l f r j ∙ x.is r j;
    taken = λ r j. rw (texts_kept k s p n h l f) (x.taken r j);
  }

-- one more record was put behind the list, and noted
module _ {kind : Kind} {B : Type 0} {g : Format B} {G : B → Type 0} {front : B → Text} (k : Plain kind g G) (f : Fronts g front) {d d' : List ℕ} {p : Place} {xs : List B} {y : B} {q q' : Place} where
  pub noted_put : {w w' : List ℕ} {i : Ids} (x : Noted kind d p w i (length xs)) → length xs < i.ids.rows → Lies g G d p xs q → Lies g G d' p (xs ++ (y ∷ [])) q' → {m : ℕ} → Kept m d d' → at q ≤ m → q.bit ≡ 0
      → (u : Text) (stars : ℕ) → starred_by u stars ≡ free (texts_at kind d p (length xs)) u → front y ≡ starred_by u stars → w' ≡ noted w i (length xs) u stars q.byte
      → Noted kind d' p w' i (length (xs ++ (y ∷ [])))
  noted_put x few l l' {m} s h b u stars fr is e =
      let last : place_of_row kind d p (length xs) ≡ q = place_last k l in
      let there : inside (length d) (place_of_row kind d p (length xs)) ≡ true = rw last (there_inside l.there) in
      let upto : at (place_of_row kind d p (length xs)) ≤ m = rw last h in
      let n : length (xs ++ (y ∷ [])) ≡ suc (length xs) = length-append xs (y ∷ []) ∙ omega arith in
      rw n (noted_more (noted_kept x k f s there upto) few u stars q.byte (fr ∙ ap (λ (l : List Text). free l u) (sym (texts_kept k s p (length xs) there upto f)))
      (text_front k f xs y [] l' ∙ is) (place_kept k s p (length xs) there upto ∙ last ∙ sym (byte_place q refl b)) e)

-- ---- the words before a place stay, so that they are the same when those behind are cleared

pub cleared_same : (from : ℕ) (w w' : List ℕ) → length w' ≡ length w → ((j : ℕ) → j < from → get_or w' j 0 ≡ get_or w j 0) → cleared from w' ≡ cleared from w
cleared_same from w w' l h =
    let t : take from w' ≡ take from w =
    ext_get_or 0 (take from w') (take from w) (length-take from w' ∙ ap (min from) l ∙ sym (length-take from w))
    (λ j k. let m : j < from = omega (arith, length-take from w') in get_or-take from w' j 0 m ∙ h j m ∙ sym (get_or-take from w j 0 m)) in
    rw (t, l)
