-- What is read from the texts of an element fits: dates lie in the years, times in a day, periods rise, and the days of exceptions lie in the years.
-- Assumes nothing.
use Rattle.std.specs.Prelude.{if◌then◌else◌, ◌≡◌, refl, Bool, true, false, ◌&&◌, List, [], ◌∷◌, map, ℕ, suc, ◌+◌, ◌-◌, ◌*◌, ◌≤◌, min, leb, ltb, eqb, ℤ, pos, negsuc}
use Rattle.std.proofs.Common.{sym, ap, ◌∙◌, subst, arith, add-one, leb-true, ltb-true}
use Prim.Native.String.{String}
use Rattle.definition.specs.Base.{◌>>=◌, ◌or◌, within}
use Rattle.definition.specs.Ascii.{bytes}
use Rattle.definition.specs.Text.{Text, trim, before, after, signed_of, unsigned_of}
use Rattle.definition.specs.Date.{Date, month_length, year_length, new_year, date_at, first_date, last_date, in_years, year_at, from_ymd, dash, first_ten, date_parts, date_of}
use Rattle.definition.specs.Time.{most_time, is_colon, time_parts, time_of}
use Rattle.definition.specs.Tree.{Element, child}
use Rattle.definition.specs.Field.{text_in, yes_in, date_in}
use Rattle.definition.specs.Recurrence.{Rule, century, rule_from, is_rule, rule_of, fits, days_of_rule, days_of, most_exception_days}
use Rattle.definition.specs.Calendar.{working_time, Exception}
use Rattle.laws.specs.Bools.{both, Within, within_is}
use Rattle.laws.specs.Each.{Each, empty, next, each_take}
use Rattle.laws.specs.Rows.{rising}
use Rattle.laws.specs.Calendar.{new_year_next, InYear, in_year, IsDay, falls, first_new_year, last_new_year}
use Rattle.laws.specs.Fields.{IsPeriod, InYears}
use Rattle.laws.specs.FitRecords.{ArePeriods}
use Rattle.laws.specs.FitLists.{each_keep, Perhaps, there, perhaps_or, perhaps_when, perhaps_bind, perhaps_any, each_count, each_up_to, count_least}

pub each_map_any : {A B : Type 0} {Q : B → Type 0} (f : A → B) → ((x : A) → Q (f x)) → (l : List A) → Each Q (map f l)
each_map_any f g [] = empty
each_map_any f g (x ∷ l) = next (g x) (each_map_any f g l)

-- ---- dates

year_rises : (y : ℕ) → new_year y ≤ new_year (suc y)
year_rises y = omega (arith, ap new_year (sym (add-one y)) ∙ new_year_next y)

year_in : (z : ℤ) → Perhaps (Within 1 19999) (year_at z)
unfolding year_at
year_in (pos n) = perhaps_when (leb n 9999) (10000 + n) (λ e. let h = leb-true n 9999 e in (omega arith, omega arith))
year_in (negsuc n) = perhaps_when (ltb n 9999) (9999 - n) (λ e. let h = ltb-true n 9999 e in (omega arith, omega arith))

day_in_lem : (y m k : ℕ) → Within 1 19999 y → IsDay y m k → InYears (date_at y m k)
day_in_lem y m k h d =
    let i : InYear (date_at y m k) y = subst (InYear (date_at y m k)) (falls (date_at y m k) y m k d refl).year (in_year (date_at y m k)) in
    let n : new_year (suc y) ≡ new_year y + year_length y = ap new_year (sym (add-one y)) ∙ new_year_next y in
    let a : new_year 1 ≤ new_year y = rising new_year year_rises 1 y h.0 in
    let b : new_year (suc y) ≤ new_year 20000 = rising new_year year_rises (suc y) 20000 (omega arith) in
    (omega (arith, i.from, first_new_year), omega (arith, i.to, last_new_year))

ymd_in : (z : ℤ) (m k : ℕ) → Perhaps InYears (from_ymd z m k)
unfolding from_ymd
ymd_in z m k =
    perhaps_bind (year_in z)
    (λ y h. perhaps_when (within 1 12 m && within 1 (month_length y m) k) (date_at y m k)
    (λ e.
    let (a, b) = both (within 1 12 m) (within 1 (month_length y m) k) e in
    let (p, q) = within_is 1 12 m a in
    let (u, v) = within_is 1 (month_length y m) k b in
    day_in_lem y m k h (record { low = p; high = q; first = u; last = v })))

pub date_of_lem : (s : Text) → Perhaps InYears (date_of s)
unfolding date_of date_parts
date_of_lem s =
    let t = trim (first_ten s) in
    perhaps_any (signed_of 32 (before dash t))
    (λ y. perhaps_any (after dash t)
    (λ rest. perhaps_any (unsigned_of 32 (before dash rest))
    (λ m. perhaps_any (after dash rest)
    (λ day. perhaps_any (unsigned_of 32 day) (λ d. ymd_in y m d)))))

pub date_in_lem : (e : Element) (n : String) → Perhaps InYears (date_in e n)
unfolding date_in
date_in_lem e n = perhaps_any (text_in e n) date_of_lem

-- ---- times

pub time_of_lem : (s : Text) → Perhaps (λ n. n ≤ most_time) (time_of s)
unfolding time_of time_parts
time_of_lem s =
    perhaps_any (unsigned_of 16 (before is_colon (trim s)))
    (λ h. perhaps_any (unsigned_of 16 (before is_colon (after is_colon (trim s) or bytes "0")))
    (λ m. perhaps_when (leb h 24 && (ltb m 60 && leb (h * 60 + m) most_time)) (h * 60 + m)
    (λ e. leb-true (h * 60 + m) most_time (both (ltb m 60) (leb (h * 60 + m) most_time) (both (leb h 24) (ltb m 60 && leb (h * 60 + m) most_time) e).1).1)))

end_most : (t : Bool) (u : ℕ) → u ≤ most_time → (if t then 1440 else u) ≤ most_time
end_most true u h = omega arith
end_most false u h = h

pub working_time_lem : (t : Element) → Perhaps IsPeriod (working_time t)
unfolding working_time
working_time_lem t =
    perhaps_any (text_in t "FromTime" >>= time_of)
    (λ from. perhaps_bind (perhaps_any (text_in t "ToTime") time_of_lem)
    (λ until h.
    let to = if eqb until 0 then 1440 else until in
    perhaps_when (ltb from to) (from, to) (λ e. (ltb-true from to e, end_most (eqb until 0) until h))))

-- ---- exceptions

-- days and hours that fit
pub record IsException (x : Exception) : Type 0 where
  pub days : Each InYears x.days
  pub periods : ArePeriods x.periods

pub days_of_lem : (w : Element) → Each InYears (days_of w)
unfolding days_of
days_of_lem w =
    perhaps_or {P = Each InYears} []
    (perhaps_any (child w (bytes "TimePeriod"))
    (λ p. perhaps_bind (date_in_lem p "FromDate")
    (λ from h. perhaps_any (date_in p "ToDate")
    (λ to. there (each_up_to first_date last_date (count_least first_date from (suc (min (to - from) most_exception_days)) h.0))))))
    empty

pub record IsRule (r : Rule) : Type 0 where
  pub from : InYears r.from
  pub last : r.last ≤ last_date

last_in : (t : Bool) (from to : Date) → to ≤ last_date → (if t then in_years (from + century) or to else to) ≤ last_date
last_in true from to h =
    perhaps_or {P = λ d. d ≤ last_date} to (perhaps_when (within first_date last_date (from + century)) (from + century) (λ e. (within_is first_date last_date (from + century) e).1)) h
last_in false from to h = h

pub rule_of_lem : (x : Element) → Perhaps IsRule (rule_of x)
unfolding rule_of rule_from
rule_of_lem x =
    perhaps_any (child x (bytes "TimePeriod"))
    (λ p. perhaps_bind (date_in_lem p "FromDate")
    (λ from h.
    let to = date_in p "ToDate" or from in
    let k : to ≤ last_date = (perhaps_or {P = InYears} from (date_in_lem p "ToDate") h).1 in
    perhaps_when (is_rule (rule_from x from to)) (rule_from x from to) (λ e. record { from = h; last = last_in (yes_in x "EnteredByOccurrences") from to k })))

pub rule_days_lem : (r : Rule) → IsRule r → Each InYears (days_of_rule r)
unfolding days_of_rule
rule_days_lem r h = each_take r.most (each_keep (fits r) (each_count first_date last_date r.from (suc r.last - r.from) h.from.0 (omega (arith, h.from.1, h.last))))
