-- Laws for the fields: one for each way out of a function. Assumes nothing.
use Rattle.std.specs.Prelude.{if◌then◌else◌}
use mathlib.Core.Path.{◌≡◌, refl, sym, ap, subst, ◌∙◌}
use mathlib.Core.Bool.{Bool, true, false, not, and-false, false≢true}
use mathlib.Core.List.{List}
use Rattle.std.specs.Prelude.{Option, Some, None}
use Rattle.std.specs.Bool.{then_some}
use Rattle.std.specs.Option.{MatchOption, unwrap_or}
use Prim.Native.Nat.{ℕ, ◌+◌, ◌-◌, ◌*◌, ◌/◌, ◌%◌, ◌≤◌, ◌<◌}
use native.Mathlib.Omega.{arith}
use lib.ListN.{length, take, drop}
use lib.Seq.{drop-drop}
use lib.Dec.{leb, ltb, eqb}
use lib.IntN.{ℤ}
use borrow.Author.Tests.{lt-ltb, le-ltb, ltb-true, ltb-false, le-leb, lt-leb, leb-true, leb-false, eqb-true, eq-eqb, ne_eqb}
use Rattle.definition.specs.Pack.{lag_kind}
use Rattle.definition.specs.Base.{◌>>=◌, ◌or◌}
use Rattle.definition.specs.Bits.{Bits, bits_of, bytes_up_to, signed}
use Rattle.definition.specs.Answer.{date_meaning, day_number_of}
use Rattle.definition.specs.declared.Date.{Date as DayNumber}
use Rattle.definition.specs.Date.{Date, from_days}
use Rattle.date.specs.Scale.{day_count, count_of_number}
use Rattle.definition.specs.Time.{most_time}
use Rattle.definition.specs.Text.{Text, is_utf8}
use Rattle.definition.specs.Format.{Format, ◌⊗◌, field, whole, count, row, flag, code, time, period, date, text, optional, number, via}
use Rattle.definition.specs.Pack.{constraint, counts}
use Rattle.bits.specs.Places.{at, place, past, room, inside, Fits, room_fits, room_short, room_none, room_more, place_at_lem, at_place}
use Rattle.bits.specs.Reads.{rest, Reads, Refuses, refused, taken_at, flag_at, int32_at, read_int32, refuse_int32, read_none, read_some, refuse_some, read_bit, span_at, span_of, no_span, spot, Spans, rest_in, rest_out, rest_past, length_rest, take_cut, take_whole, read_field, read_whole, skip_pad, chain, read_flag, read_code, refuse_code, read_time, refuse_time, read-⊗, read_period, refuse_period, refuse_value, refuse_first, refuse_second, refuse_test, far}
use Rattle.bits.specs.declared.Place.{Place}
use Rattle.bits.specs.declared.Field.{Field}
use Rattle.bits.specs.declared.Span.{Span}
use Rattle.laws.specs.Options.{Some-injective, bind_ext, never}
use Rattle.laws.specs.Fields.{day_days, InYears}
use Rattle.model.specs.Lax.{behind, left, like_named, like_optional}
use Rattle.model.specs.Passes.{Passes, Flagged, pass_like, pass_read, pass_refused, pass_some, pass_none, pass_both, pass_alone}
use Rattle.model.specs.Answers.{read_at, counts_at, row_at, rows_at, date_at, or_at, spanned, name_at, read_there, read_nowhere, or_there, or_nowhere, seen, next_reads, tails_date}
use Rattle.model.specs.Splits.{stands_is, not_refused}
use Rattle.model.specs.Sections.{start, counts_by}
use Rattle.model.specs.Places.{NamePlaced, NameTaken, span_ends, text_in, name_in, name_is}
use Rattle.std.specs.Borrow.{Bor}
use Rattle.model.specs.Rising.{Finds, PeriodKey, DayKey}
use Rattle.model.specs.Parts.{raw, text_by}

-- nothing there: past
pub pass_past : {A : Type 0} {f : Format A} {s : List ℕ} {p : Place} → Refuses f s p → Passes f s p past
pass_past {s = s} h = pass_refused h (rest_past s)

-- ---- so many bits

module _ (s : List ℕ) (p : Place) (w : ℕ) where
  bits_past : room (length s) p w ≡ false → Passes (field w) s p past
  bits_past h = pass_read (read_field s p w {x = record { value = 0; next = past }} (sym (take_cut s p w h)))

  pub bits_out : inside (length s) p ≡ false → Passes (field w) s p past
  bits_out h = bits_past (room_more (length s) p 0 w (omega arith) h)

  abbrev pub beyond : Place
  beyond = record { byte = p.byte + (p.bit + w) / 8; bit = (p.bit + w) % 8 }

  pub bits_short : inside (length s) beyond ≡ false → Passes (field w) s p past
  bits_short h = bits_past (room_short (length s) p w (λ b. omega (arith, room_none (length s) beyond 0 h (omega arith))))

  pub bits_in : inside (length s) p ≡ true → inside (length s) beyond ≡ true → Passes (field w) s p beyond
  bits_in h i =
      let f = room_fits (length s) p 0 h in
      let g = room_fits (length s) beyond 0 i in
      let fits : Fits (length s) p w = record { bit = f.bit; ends = omega (arith, g.ends) } in
      let e : beyond ≡ place (at p + w) = place_at_lem beyond (omega arith) (omega arith) in
      rw e (pass_read (read_field s p w (sym (take_whole s p w fits))))

-- ---- codes

module _ (s : List ℕ) (p : Place) (lo hi : ℕ) {x : Field ℕ Place} (e : x ≡ taken_at s p 4) where
  pub code_in : lo ≤ x.value → x.value ≤ hi → Reads (code lo hi) s p x.value x.next
  code_in l h = read_code lo hi (read_field s p 4 e) (rw (le-leb lo x.value l, le-leb x.value hi h))

  pub code_below : x.value < lo → Refuses (code lo hi) s p
  code_below l = refuse_code lo hi (read_field s p 4 e) (rw (lt-leb lo x.value l))

  pub code_above : hi < x.value → Refuses (code lo hi) s p
  code_above h = refuse_code lo hi (read_field s p 4 e) (rw (lt-leb x.value hi h) (and-false (leb lo x.value)))

  pub code_out : (lo ≤ x.value → x.value ≤ hi → ⊥) → Refuses (code lo hi) s p
  code_out n = by_low (leb lo x.value) refl
    where
      by_low : (t : Bool) → leb lo x.value ≡ t → Refuses (code lo hi) s p
      by_low false h = code_below (leb-false lo x.value h)
      by_low true h = code_above (by_high (leb x.value hi) refl)
        where
          by_high : (u : Bool) → leb x.value hi ≡ u → hi < x.value
          by_high true k = absurd (n (leb-true lo x.value h) (leb-true x.value hi k))
          by_high false k = leb-false x.value hi k

-- ---- what may be missing

pub pass_flagged : {A : Type 0} (f : Format A) {s : List ℕ} {p r : Place} {φ : Place → Type 0} → Flagged s p r φ → ((q : Place) → φ q → Passes f s q r) → Passes (optional f) s p r
pass_flagged {A} f {s} {p} {r} h on = by_value (eqb (taken_at s p 1).value 1) refl
  where
    x : Field ℕ Place
    x = taken_at s p 1

    by_value : (t : Bool) → eqb x.value 1 ≡ t → Passes (optional f) s p r
    by_value true e = pass_some (rw e at (read_flag (read_field s p 1 refl))) (on x.next (h.set (eqb-true x.value 1 e)))
    by_value false e = rw (h.clear (λ z. absurd (false≢true (sym e ∙ eq-eqb x.value 1 z)))) (pass_none f (rw e at (read_flag (read_field s p 1 refl))))

pub pass_number : {s : List ℕ} {p q : Place} → Passes (field 64) s p q → Passes number s p q
unfolding number
pass_number h = pass_like (like_named _ _ _) h

pub pass_optional_number : {s : List ℕ} {p q : Place} → Passes (optional (field 64)) s p q → Passes (optional number) s p q
unfolding number
pass_optional_number h = pass_like (like_optional (like_named _ _ _)) h

-- ---- texts

-- any bytes
abbrev behind_bytes : ℕ × Bits → Option Bits
behind_bytes x = if ltb (length x.1) (8 * x.0) then None else Some (drop (8 * x.0) x.1)

left_raw : (l : Bits) → left raw l ≡ ((whole count).get l >>= behind_bytes)
unfolding raw
left_raw l = by_count ((whole count).get l)
  where
    by_room : (x : ℕ × Bits) (t : Bool) → behind {A = Text} (if t then None else Some (bytes_up_to x.0 x.1, drop (8 * x.0) x.1)) ≡ (if t then None else Some (drop (8 * x.0) x.1))
    by_room x true = refl
    by_room x false = refl

    by_count : (o : Option (ℕ × Bits)) → behind {A = Text} (o >>= λ x. if ltb (length x.1) (8 * x.0) then None else Some (bytes_up_to x.0 x.1, drop (8 * x.0) x.1)) ≡ (o >>= behind_bytes)
    by_count None = refl
    by_count (Some x) = by_room x (ltb (length x.1) (8 * x.0))

rest_place : (s : List ℕ) (n : ℕ) → n ≤ 8 * length s → rest s (place n) ≡ Some (drop n (bits_of s))
rest_place s n h =
    let f : Fits (length s) (place n) 0 = record { bit = omega arith; ends = omega arith } in
    rest_in s (place n) f ∙ rw (at_place n)

pass_raw : (s : List ℕ) (p : Place) {x : Span} → x ≡ span_at s p → Passes raw s p x.next
unfolding span_at
pass_raw s p {x} e = record { passes = bind_ext (rest s p) (left raw) (λ l. (whole count).get l >>= behind_bytes) left_raw ∙ by_place _ _ (read_whole (read_field s p 32 refl) (skip_pad s _ refl)) }
  where
    by_room : (b : Place) (n : ℕ) → Fits (length s) b 0 → (t : Bool) → ltb (length (drop (at b) (bits_of s))) (8 * n) ≡ t
        → behind_bytes (n, drop (at b) (bits_of s)) ≡ rest s (span_of s (Some (n, drop (at b) (bits_of s)))).next
    by_room b n f true h = rw h (sym (rest_past s))
    by_room b n f false h =
        let l = ltb-false (length (drop (at b) (bits_of s))) (8 * n) h in
        let z = length_rest s (at b) in
        let y = length_rest s (at b + 8 * n) in
        let w : 8 * length s - length (drop (at b + 8 * n) (bits_of s)) ≡ at b + 8 * n = omega (arith, f.ends) in
        rw (h, drop-drop, w) (sym (rest_place s (at b + 8 * n) (omega (arith, f.ends))))

    by_inside : (b : Place) (n : ℕ) (t : Bool) → inside (length s) b ≡ t → (rest s b >>= λ l. behind_bytes (n, l)) ≡ rest s (span_of s (rest s b >>= λ l. Some (n, l))).next
    by_inside b n false h = rw (rest_out s b h) (sym (rest_past s))
    by_inside b n true h = rw (rest_in s b (room_fits (length s) b 0 h)) (by_room b n (room_fits (length s) b 0 h) (ltb (length (drop (at b) (bits_of s))) (8 * n)) refl)

    by_place : (n : ℕ) (b : Place) → Reads (whole count) s p n b → (rest s p >>= λ l. (whole count).get l >>= behind_bytes) ≡ rest s x.next
    by_place n b h = chain {f = whole count} behind_bytes h ∙ by_inside b n (inside (length s) b) refl ∙ ap (λ (o : Option (ℕ × Bits)). rest s (span_of s o).next) (sym h.reads) ∙ ap (λ (y : Span). rest s y.next) (sym e)

-- whether a const parameter, which proofs see as a number, is true
abbrev pub is_set : ℕ → Bool
is_set n = not (eqb n 0)

pub is_set-true : {n : ℕ} → (n ≡ 0 → ⊥) → is_set n ≡ true
is_set-true {n} h = ap not (ne_eqb n 0 h)

pub is_set-false : {n : ℕ} → n ≡ 0 → is_set n ≡ false
is_set-false {n} h = ap not (eq-eqb n 0 h)

-- the bytes from start to end
module _ (s : List ℕ) (p : Place) {x : Span} (h : Spans s p x) (check : Bool) where
  module _ (c : check ≡ true) {b : Bool} (e : b ≡ is_utf8 (text_in s (x.start, x.len))) where
    pub text_good : b ≡ true → Passes (text_by check) s p x.next
    unfolding text_by
    text_good t = rw c (pass_read (h.reads (sym e ∙ t)))

    pub text_bad : b ≡ false → Passes (text_by check) s p past
    unfolding text_by
    text_bad t = rw c (pass_past (h.refuses (sym e ∙ t)))

  pub text_any : check ≡ false → Passes (text_by check) s p x.next
  unfolding text_by
  text_any c = rw c (pass_raw s p h.is)

-- ---- dates

-- a date that was made of document 01's number, on the scale that lists rise by
module _ {a : Option DayNumber} {o : Option Date} (m : date_meaning a ≡ day_number_of o) where
  no_day : a ≡ None → o ≡ None
  unfolding date_meaning day_number_of
  no_day h = by_date_lem o (ap date_meaning (sym h) ∙ m)
    where
      by_date_lem : (o : Option Date) → None ≡ day_number_of o → o ≡ None
      by_date_lem None e = refl
      by_date_lem (Some x) e = never e

  counted : {d : DayNumber} → a ≡ Some d → o ≡ Some (day_count d.0)
  unfolding date_meaning day_number_of
  counted {d} h = by_date_lem o (ap date_meaning (sym h) ∙ m)
    where
      by_date_lem : (o : Option Date) → Some d.0 ≡ day_number_of o → o ≡ Some (day_count d.0)
      by_date_lem None e = never (sym e)
      by_date_lem (Some x) e = ap Some (sym (ap day_count (Some-injective _ _ e) ∙ count_of_number x))

date_years : (o : Option Bits) (x : Date × Bits) → (o >>= date.get) ≡ Some x → InYears x.0
unfolding date via
date_years None x e = never e
date_years (Some l) x e = by_field ((field 32).get l) e
  where
    by_day : (m : Bits) (v : ℕ) (o : Option Date) → from_days (signed 32 v) ≡ o → ◌≡◌ {A = Option (Date × Bits)} (o >>= λ d. Some (d, m)) (Some x) → InYears x.0
    by_day m v None u e = never e
    by_day m v (Some d) u e = subst (λ (y : Date). InYears y) (ap (λ (y : Date × Bits). y.0) (Some-injective _ _ e)) (day_days (signed 32 v) d u).1

    by_field : (o : Option (ℕ × Bits)) → ◌≡◌ {A = Option (Date × Bits)} (o >>= λ y. from_days (signed 32 y.0) >>= λ d. Some (d, y.1)) (Some x) → InYears x.0
    by_field None e = never e
    by_field (Some y) e = by_day y.1 y.0 (from_days (signed 32 y.0)) refl e

-- a date by the number that lists rise by, as it was read
module _ (s : List ℕ) (p q : Place) (v : ℕ) where
  date_by_key : (a : Option DayNumber) → (date_meaning a, q) ≡ date_at s p → MatchOption a (v ≡ 0) (λ d. v ≡ day_count d.0)
      → (o : Option (Date × Bits)) → (rest s p >>= date.get) ≡ o → Finds date (DayKey false) s p (record { value = v; next = q })
  unfolding read_at
  date_by_key None e k None h =
      let g : q ≡ past = ap (λ (y : Option ℤ × Place). y.1) e ∙ ap (λ (o : Option (Date × Bits)). (seen s o).1) h in
      record { found = λ l. absurd (omega (arith, k)); refuses = λ t. record { gives = h }; past = λ t. rw g (rest_past s) }
  date_by_key None e k (Some x) h = never (sym (no_day (ap (λ (y : Option ℤ × Place). y.0) e) refl) ∙ ap (λ (o : Option (Date × Bits)). (seen s o).0) h)
  date_by_key (Some d) e k None h =
      never (sym (ap (λ (o : Option (Date × Bits)). (seen s o).0) h) ∙ counted (ap (λ (y : Option ℤ × Place). y.0) e) refl)
  date_by_key (Some d) e k (Some x) h =
      let c : (read_at date s p).0 ≡ Some (day_count d.0) = counted (ap (λ (y : Option ℤ × Place). y.0) e) refl in
      let z : x.0 ≡ day_count d.0 = Some-injective _ _ (sym (ap (λ (o : Option (Date × Bits)). (seen s o).0) h) ∙ c) in
      let l = (date_years (rest s p) x h).0 in
      let reads : Reads date s p (day_count d.0) q = rw c at (next_reads tails_date 0 s p (ap (λ (y : Option ℤ × Place). y.1) e)) in
      record {
        found = λ m. record { item = day_count d.0; key = (sym k, m); reads = reads };
        refuses = λ t. absurd (omega (arith, l, z, k));
        past = λ t. absurd (omega (arith, l, z, k));
      }

  pub date_keyed : (a : Option DayNumber) → (date_meaning a, q) ≡ date_at s p → MatchOption a (v ≡ 0) (λ d. v ≡ day_count d.0)
      → Finds date (DayKey false) s p (record { value = v; next = q })
  date_keyed a e k = date_by_key a e k (rest s p >>= date.get) refl

-- ---- periods

module _ (s : List ℕ) (p : Place) {a b : Field ℕ Place} (ea : a ≡ taken_at s p 11) (eb : b ≡ taken_at s a.next 11) where
  from_late : leb a.value most_time ≡ false → Refuses period s p
  unfolding period
  from_late h = refuse_value _ _ (refuse_first time (refuse_time (read_field s p 11 ea) h))

  pub to_late : most_time < b.value → (t : Bool) → leb a.value most_time ≡ t → Refuses period s p
  unfolding period
  to_late h false e = from_late e
  to_late h true e = refuse_value _ _ (refuse_second (read_time (read_field s p 11 ea) e) (refuse_time (read_field s a.next 11 eb) (lt-leb b.value most_time h)))

  both_times : a.value ≤ most_time → b.value ≤ most_time → Reads (time ⊗ time) s p (a.value, b.value) b.next
  both_times h k = read-⊗ (read_time (read_field s p 11 ea) (le-leb a.value most_time h)) (read_time (read_field s a.next 11 eb) (le-leb b.value most_time k))

  pub level : b.value ≤ a.value → (t : Bool) → leb a.value most_time ≡ t → Refuses period s p
  level h false e = from_late e
  level h true e = let l = leb-true a.value most_time e in refuse_period (both_times l (omega arith)) (le-ltb a.value b.value h)

  pub period_read : a.value < b.value → b.value ≤ most_time → Reads period s p (a.value, b.value) b.next
  period_read h k = read_period (both_times (omega arith) k) (lt-ltb a.value b.value h)

  no_period : Refuses period s p → Finds period PeriodKey s p (record { value = 0; next = past })
  no_period h = record { found = λ l. absurd (omega arith); refuses = λ t. h; past = λ t. rest_past s }

  pub period_level : b.value ≤ a.value → Finds period PeriodKey s p (record { value = 0; next = past })
  period_level h = no_period (level h (leb a.value most_time) refl)

  pub period_late : most_time < b.value → Finds period PeriodKey s p (record { value = 0; next = past })
  period_late h = no_period (to_late h (leb a.value most_time) refl)

  pub period_found : a.value < b.value → b.value ≤ most_time → Finds period PeriodKey s p (record { value = a.value * 2048 + b.value; next = b.next })
  period_found h k =
      let v : ℕ = a.value * 2048 + b.value in
      let x : v / 2048 ≡ a.value = omega arith in
      let y : v % 2048 ≡ b.value = omega arith in
      record {
        found = λ l. record { item = (a.value, b.value); key = (rw (x, y), l); reads = period_read h k };
        refuses = λ t. absurd (omega arith);
        past = λ t. absurd (omega arith);
      }

-- ---- codes that a value follows

module _ (s : List ℕ) (p : Place) {x : Field ℕ Place} (e : x ≡ taken_at s p 4) where
  pub constraint_low : x.value ≡ 0 → Passes constraint s p past
  unfolding constraint
  constraint_low h = pass_past (refuse_test _ date (code_below s p 1 7 e (omega arith)))

  pub constraint_high : 7 < x.value → Passes constraint s p past
  unfolding constraint
  constraint_high h = pass_past (refuse_test _ date (code_above s p 1 7 e h))

  pub constraint_alone : x.value ≡ 1 → Passes constraint s p x.next
  unfolding constraint
  constraint_alone h = pass_alone _ date (code_in s p 1 7 e (omega arith) (omega arith)) (ap not (eq-eqb x.value 1 h))

  pub constraint_dated : {r : Place} → (x.value ≡ 0 → ⊥) → x.value ≤ 7 → (x.value ≡ 1 → ⊥) → Passes date s x.next r → Passes constraint s p r
  unfolding constraint
  constraint_dated z h n i = pass_both _ (code_in s p 1 7 e (omega arith) h) (ap not (ne_eqb x.value 1 n)) i

  pub lag_high : 2 < x.value → Passes lag_kind s p past
  lag_high h = pass_past (refuse_test _ number (code_above s p 0 2 e h))

  pub lag_percent : {r : Place} → x.value ≡ 2 → Passes (field 64) s x.next r → Passes lag_kind s p r
  lag_percent h i = pass_both (eqb 2) (code_in s p 0 2 e (omega arith) (omega arith)) (eq-eqb 2 x.value (sym h)) (pass_number i)

  pub lag_plain : x.value ≤ 2 → (x.value ≡ 2 → ⊥) → Passes lag_kind s p x.next
  lag_plain h n = pass_alone (eqb 2) number (code_in s p 0 2 e (omega arith) h) (ne_eqb 2 x.value (λ z. n (sym z)))

-- ---- what a reader of parts answers

-- the place behind a field: past, or inside
module _ (s : List ℕ) (p : Place) (w : ℕ) {x : Field ℕ Place} (e : x ≡ taken_at s p w) where
  take_cases : (room (length s) p w ≡ false → x.next ≡ past) × (room (length s) p w ≡ true → rest s x.next ≡ Some (drop (at p + w) (bits_of s)))
  take_cases = (
    λ h. ap (λ (y : Field ℕ Place). y.next) (e ∙ take_cut s p w h),
    λ h. let f = room_fits (length s) p w h in ap (λ (y : Field ℕ Place). rest s y.next) (e ∙ take_whole s p w f) ∙ rest_place s (at p + w) f.ends,
  )

  pub take_there : x.next.bit ≤ 7 → (l : Bits) × (rest s x.next ≡ Some l)
  take_there h = by_room (room (length s) p w) refl
    where
      by_room : (t : Bool) → room (length s) p w ≡ t → (l : Bits) × (rest s x.next ≡ Some l)
      by_room true r = (_, take_cases.1 r)
      by_room false r = let z = ap (λ (q : Place). q.bit) (take_cases.0 r) in absurd (omega arith)

  take_past : rest s x.next ≡ None → x.next ≡ past
  take_past h = by_room (room (length s) p w) refl
    where
      by_room : (t : Bool) → room (length s) p w ≡ t → x.next ≡ past
      by_room true r = absurd (never (sym h ∙ take_cases.1 r))
      by_room false r = take_cases.0 r

  -- a value that ends with the field: none where the place behind is past every end
  take_then : {A : Type 0} (f : Format A) {q : Place} {a : A} → Reads f s q a x.next → read_at f s q ≡ (then_some (ltb x.next.bit 8) a, x.next)
  take_then {A} f {q} {a} r = by_bit (ltb x.next.bit 8) refl
    where
      by_bit : (t : Bool) → ltb x.next.bit 8 ≡ t → read_at f s q ≡ (then_some t a, x.next)
      by_bit true h = let l = ltb-true x.next.bit 8 h in read_there (take_there (omega arith)).1 r
      by_bit false h =
          let z = far s x.next (ltb-false x.next.bit 8 h) in
          read_nowhere (refused r z) ∙ ap (λ (n : Place). (None, n)) (sym (take_past z))

  -- a field that is cut is 0
  pub take_above : 0 < x.value → x.next.bit ≤ 7
  take_above h = by_room (room (length s) p w) refl
    where
      by_room : (t : Bool) → room (length s) p w ≡ t → x.next.bit ≤ 7
      by_room true r = let f = room_fits (length s) p w r in let z = ap (λ (y : Field ℕ Place). y.next.bit) (e ∙ take_whole s p w f) in omega arith
      by_room false r = let z = ap (λ (y : Field ℕ Place). y.value) (e ∙ take_cut s p w r) in absurd (omega arith)

-- the place behind a text: past, or inside
span_past : (s : List ℕ) (p : Place) {t : Span} → t ≡ span_at s p → 7 < t.next.bit → t.next ≡ past
unfolding span_at
span_past s p {t} e = rw e (by_count (rest s p >>= (whole count).get))
  where
    by_room : (x : ℕ × Bits) (b : Bool) → 7 < (if b then no_span else record { start = (spot s x.1).byte; len = x.0; next = spot s (drop (8 * x.0) x.1) }).next.bit
        → (if b then no_span else record { start = (spot s x.1).byte; len = x.0; next = spot s (drop (8 * x.0) x.1) }).next ≡ past
    by_room x true h = refl
    by_room x false h = absurd (omega arith)

    by_count : (o : Option (ℕ × Bits)) → 7 < (span_of s o).next.bit → (span_of s o).next ≡ past
    by_count None h = refl
    by_count (Some x) h = by_room x (ltb (length x.1) (8 * x.0)) h

-- ---- flags

module _ (s : List ℕ) (p : Place) {x : Field Bool Place} (e : x ≡ flag_at s p) where
  pub flag_as : {b : Bool} → x.value ≡ b → Reads flag s p b x.next
  flag_as h = rw (← h) (read_bit s p e)

  flag_past : rest s x.next ≡ None → x.next ≡ past
  unfolding flag_at
  flag_past h = let z : x.next ≡ (taken_at s p 1).next = ap (λ (y : Field Bool Place). y.next) e in z ∙ take_past s p 1 refl (ap (rest s) (sym z) ∙ h)

  -- ---- rows

  pub row_missing : x.value ≡ false → (None, x.next) ≡ row_at s p
  row_missing h = by_rest (rest s x.next) refl
    where
      r : Reads (optional row) s p None x.next
      r = read_none row (flag_as h)

      by_rest : (o : Option Bits) → rest s x.next ≡ o → (None, x.next) ≡ row_at s p
      by_rest None z = ap (λ (q : Place). (None, q)) (flag_past z) ∙ sym (or_nowhere None (refused r z))
      by_rest (Some l) z = sym (or_there None z r)

  pub row_read : {v : Field ℕ Place} → x.value ≡ true → v ≡ taken_at s x.next 32 → (then_some (ltb v.next.bit 8) v.value, v.next) ≡ row_at s p
  unfolding or_at
  row_read {v} h ev = sym (ap (λ (y : Option (Option ℕ) × Place). (y.0 or None, y.1)) (take_then s x.next 32 ev (optional row) (read_some (flag_as h) (read_field s x.next 32 ev))) ∙ by_bit (ltb v.next.bit 8))
    where
      by_bit : (t : Bool) → ◌≡◌ {A = Option ℕ × Place} (then_some t (Some v.value) or None, v.next) (then_some t v.value, v.next)
      by_bit true = refl
      by_bit false = refl

  -- ---- names

  pub name_missing : x.value ≡ false → NamePlaced s p (record { value = None; next = x.next })
  unfolding name_at
  name_missing h =
      record {
        is = let z : (flag_at s p).value ≡ false = ap (λ (y : Field Bool Place). y.value) (sym e) ∙ h in rw z (ap (λ (y : Field Bool Place). (None, y.next)) e);
        within = λ start len z. absurd (no_name z);
        text = λ o k. sym (stands_is k (read_none text (flag_as h)));
      }
    where
      no_name : {a b : ℕ} → ◌≡◌ {A = Option (ℕ × ℕ)} None (Some (a, b)) → ⊥
      no_name = never

  module _ {t : Span} (h : x.value ≡ true) (k : Spans s x.next t) where
    name_by : name_at s p ≡ spanned t
    unfolding name_at
    name_by =
        let z : (flag_at s p).value ≡ true = ap (λ (y : Field Bool Place). y.value) (sym e) ∙ h in
        rw z (ap (λ (y : Field Bool Place). spanned (span_at s y.next)) (sym e) ∙ ap spanned (sym k.is))

    no_text : 7 < t.next.bit → Refuses text s x.next
    no_text b = by_utf8 (is_utf8 (take t.len (drop t.start s))) refl
      where
        by_utf8 : (u : Bool) → is_utf8 (take t.len (drop t.start s)) ≡ u → Refuses text s x.next
        by_utf8 true z = refused (k.reads z) (far s t.next b)
        by_utf8 false z = k.refuses z

    name_cut : 7 < t.next.bit → NamePlaced s p (record { value = None; next = t.next })
    name_cut b =
        record {
          is = ap (λ (q : Place). (None, q)) (span_past s x.next k.is b) ∙ sym (name_by ∙ rw (lt-ltb 7 t.next.bit b));
          within = λ start len z. absurd (no_name z);
          text = λ o z. absurd (not_refused z (refuse_some (flag_as h) (no_text b)));
        }
      where
        no_name : {a b : ℕ} → ◌≡◌ {A = Option (ℕ × ℕ)} None (Some (a, b)) → ⊥
        no_name = never

    name_given : t.next.bit ≤ 7 → NamePlaced s p (record { value = Some (t.start, t.len); next = t.next })
    name_given b =
        record {
          is = sym (name_by ∙ rw (le-ltb 7 t.next.bit b));
          within = λ start len z.
              let q : ◌≡◌ {A = ℕ × ℕ} (t.start, t.len) (start, len) = Some-injective _ _ z in
              let u : t.start ≡ start = ap (λ (x : ℕ × ℕ). x.0) q in
              let v : t.len ≡ len = ap (λ (x : ℕ × ℕ). x.1) q in
              let w = span_ends s x.next k.is in
              omega arith;
          text = λ o z. name_is z (flag_as h) k;
        }

    pub name_read : NamePlaced s p (record { value = then_some (ltb t.next.bit 8) (t.start, t.len); next = t.next })
    name_read = by_bit (ltb t.next.bit 8) refl
      where
        by_bit : (b : Bool) → ltb t.next.bit 8 ≡ b → NamePlaced s p (record { value = then_some b (t.start, t.len); next = t.next })
        by_bit true z = let l = ltb-true t.next.bit 8 z in name_given (omega arith)
        by_bit false z = name_cut (ltb-false t.next.bit 8 z)

-- the text, from where it stands
module _ {s : List ℕ} {p : Place} {r : Field (Option (ℕ × ℕ)) Place} (h : NamePlaced s p r) where
  name_as : (o : Option (ℕ × ℕ)) (q : Place) → (o, q) ≡ name_at s p → ◌≡◌ {A = Option Text × Place} (name_in s o, q) (name_in s (name_at s p).0, (name_at s p).1)
  name_as o q = ap (λ (y : Option (ℕ × ℕ) × Place). (name_in s y.0, y.1))

  pub text_none : r.value ≡ None → NameTaken s p (record { value = None; next = r.next })
  text_none e =
      record {
        is = name_as None r.next (ap (λ (o : Option (ℕ × ℕ)). (o, r.next)) (sym e) ∙ h.is);
        text = λ o k. h.text o k ∙ ap (name_in s) e;
      }

  pub text_some : {start len : ℕ} → r.value ≡ Some (start, len) → {u : Bor (List ℕ)} → u.now ≡ text_in s (start, len) → NameTaken s p (record { value = Some u; next = r.next })
  text_some {start = start} {len = len} e i =
      record {
        is = ap (λ (v : List ℕ). (Some v, r.next)) i ∙ name_as (Some (start, len)) r.next (ap (λ (o : Option (ℕ × ℕ)). (o, r.next)) (sym e) ∙ h.is);
        text = λ o k. h.text o k ∙ ap (name_in s) e ∙ ap Some (sym i);
      }

-- ---- two rows

module _ (s : List ℕ) (p : Place) {a b : Field ℕ Place} (ea : a ≡ taken_at s p 32) (eb : b ≡ taken_at s a.next 32) where
  rows_read : Reads (row ⊗ row) s p (a.value, b.value) b.next
  rows_read = read-⊗ (read_field s p 32 ea) (read_field s a.next 32 eb)

  pub rows_are : (unwrap_or (then_some (ltb b.next.bit 8) (a.value, b.value)) (0, 0), b.next) ≡ rows_at s p
  unfolding or_at
  rows_are = sym (ap (λ (y : Option (ℕ × ℕ) × Place). (y.0 or (0, 0), y.1)) (take_then s a.next 32 eb (row ⊗ row) rows_read) ∙ by_bit (ltb b.next.bit 8))
    where
      by_bit : (t : Bool) → ◌≡◌ {A = (ℕ × ℕ) × Place} (then_some t (a.value, b.value) or (0, 0), b.next) (unwrap_or (then_some t (a.value, b.value)) (0, 0), b.next)
      by_bit true = refl
      by_bit false = refl

-- ---- the counts

module _ (s : List ℕ) {a b c d e f : Field ℕ Place} (ea : a ≡ taken_at s start 32) (eb : b ≡ taken_at s a.next 32) (ec : c ≡ taken_at s b.next 32) (ed : d ≡ taken_at s c.next 32)
    (ee : e ≡ taken_at s d.next 32) (ef : f ≡ taken_at s e.next 32) where
  counts_read : Reads counts s start (a.value, (b.value, (c.value, (d.value, (e.value, f.value))))) f.next
  counts_read =
      read-⊗ (read_field s start 32 ea) (read-⊗ (read_field s a.next 32 eb) (read-⊗ (read_field s b.next 32 ec)
      (read-⊗ (read_field s c.next 32 ed) (read-⊗ (read_field s d.next 32 ee) (read_field s e.next 32 ef)))))

  pub counts_are : counts_by (a.value, (b.value, (c.value, (d.value, (e.value, f.value))))) f.next ≡ counts_at s start
  counts_are = by_bit (ltb 7 f.next.bit) refl
    where
      by_bit : (t : Bool) → ltb 7 f.next.bit ≡ t → (if t then ((0, (0, (0, (0, (0, 0))))), past) else ((a.value, (b.value, (c.value, (d.value, (e.value, f.value))))), f.next)) ≡ counts_at s start
      by_bit true h = sym (or_nowhere _ (refused counts_read (far s f.next (ltb-true 7 f.next.bit h))))
      by_bit false h = sym (or_there _ (take_there s e.next 32 ef (ltb-false 7 f.next.bit h)).1 counts_read)

-- ---- dates

module _ (s : List ℕ) (p : Place) {x : Field ℤ Place} (e : x ≡ int32_at s p) {a : Option DayNumber} (m : date_meaning a ≡ day_number_of (from_days x.value)) where
  pub date_missing : a ≡ None → (date_meaning None, past) ≡ date_at s p
  unfolding date_meaning day_number_of
  date_missing h = rw (read_nowhere (refuse_int32 s p e (no_day m h)))

  pub date_read : {d : DayNumber} → a ≡ Some d → (date_meaning (then_some (ltb x.next.bit 8) d), x.next) ≡ date_at s p
  unfolding date_meaning day_number_of int32_at
  date_read {d} h = sym (ap (λ (y : Option Date × Place). (day_number_of y.0, y.1)) there ∙ by_bit (ltb x.next.bit 8))
    where
      z : from_days x.value ≡ Some (day_count d.0)
      z = counted m h

      there : read_at date s p ≡ (then_some (ltb x.next.bit 8) (day_count d.0), x.next)
      there = rw e (take_then s p 32 refl date (rw e at (read_int32 s p e z)))

      by_bit : (t : Bool) → ◌≡◌ {A = Option ℤ × Place} (day_number_of (then_some t (day_count d.0)), x.next) (date_meaning (then_some t d), x.next)
      by_bit true = ap (λ (o : Option ℤ). (o, x.next)) (ap day_number_of (sym z) ∙ sym m ∙ ap date_meaning h)
      by_bit false = refl

-- ---- periods

pub period_missing : {s : List ℕ} {p : Place} → Refuses period s p → (None, past) ≡ read_at period s p
period_missing h = sym (read_nowhere h)

module _ (s : List ℕ) (p : Place) {a b : Field ℕ Place} (ea : a ≡ taken_at s p 11) (eb : b ≡ taken_at s a.next 11) where
  pub no_level : b.value ≤ a.value → (None, past) ≡ read_at period s p
  no_level h = period_missing (level s p ea eb h (leb a.value most_time) refl)

  pub no_late : most_time < b.value → (None, past) ≡ read_at period s p
  no_late h = period_missing (to_late s p ea eb h (leb a.value most_time) refl)

  pub period_given : a.value < b.value → b.value ≤ most_time → (Some (a.value, b.value), b.next) ≡ read_at period s p
  period_given h k = sym (read_there (take_there s a.next 11 eb (take_above s a.next 11 eb (omega arith))).1 (period_read s p ea eb h k))
