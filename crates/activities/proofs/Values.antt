-- Laws of an activity's values. Assumes nothing.
use Rattle.std.specs.Prelude.{if◌then◌else◌}
use Rattle.index.specs.declared.Table.{Table}
use Prim.Native.Nat.{ℕ}
use mathlib.Core.Path.{◌≡◌, refl, sym, ap, ◌∙◌}
use mathlib.Core.Bool.{Bool, true, false, not}
use mathlib.Core.List.{List, []}
use Rattle.std.specs.Prelude.{Option, Some, None}
use lib.Dec.{eqb}
use lib.ListN.{length}
use Rattle.definition.specs.Ascii.{bytes}
use Rattle.std.specs.Option.{unwrap_or, option_map}
use Rattle.definition.specs.Base.{◌>>=◌, ◌or◌, when, same, within}
use Rattle.definition.specs.Calendar.{name_of, free}
use Rattle.definition.specs.Date.{Date}
use Rattle.definition.specs.Field.{text_in}
use Rattle.definition.specs.Format.{whole}
use Rattle.definition.specs.Pack.{activity}
use Rattle.definition.specs.Task.{Context, is_elapsed, level_of, unless_main, wanted_id, parent_of, constraint_from, activity_of}
use Rattle.definition.specs.Text.{Text}
use Rattle.definition.specs.Tree.{Element}
use Rattle.bits.specs.Places.{inside}
use Rattle.bits.specs.Steps.{Puts, put_same}
use Rattle.bits.specs.declared.Place.{Place}
use Rattle.laws.specs.Fields.{InYears}
use Rattle.laws.specs.Formats.{IfGiven}
use Rattle.pack.specs.Record.{activity_by}
use Rattle.pack.specs.Value.{given_by, starred, starred_by}
use Rattle.pack.specs.Writes.{put_any}
use Rattle.names.specs.Named.{named_in}
use Rattle.names.specs.Naming.{Finds}
use Rattle.pack.specs.declared.record.Activity.{Activity}
use Rattle.pack.specs.declared.record.Plan.{Plan}
use Rattle.activities.specs.Values.{day_by, calendar_by, calendar_in, PlanOf, DatesOf, ProgressOf, activity_planned}

-- ---- the calendar's name

-- words that say the names give the calendar's
pub calendar_found : {x : Context} {s : Text} {k : Option Table} {w : List ℕ} → Finds x s k w → (e : Bool) (t : Element) → calendar_in x s w k e t ≡ calendar_by x e t
calendar_found f true t = f.elapsed
calendar_found {x} {s} {k} {w} f false t = go (text_in t "CalendarUID")
  where
    own : (b : Bool) (u : Text) → (when b u >>= named_in x s w k) ≡ (when b u >>= name_of x.built >>= unless_main x)
    own true u = f.named u
    own false u = refl

    go : (o : Option Text) → (o >>= λ u. when (not (same u (bytes "-1"))) u >>= named_in x s w k) ≡ (o >>= λ u. when (not (same u (bytes "-1"))) u >>= name_of x.built) >>= unless_main x
    go None = refl
    go (Some u) = own (not (same u (bytes "-1"))) u

-- what a text leads to that is there and is kept
pub kept_text : {A : Type 0} (now : A → Text) (t : Text → Bool) (f : Text → Option Text) (o : Option A) {p : Option Text} → option_map now o ≡ p → {v : A} → (o >>= λ u. when (t (now u)) u) ≡ Some v → f (now v) ≡ (p >>= λ u. when (t u) u >>= f)
kept_text {A} now t f o e h = ap (λ o. o >>= λ u. f (now u)) (sym h) ∙ rw (← e) (go o)
  where
    own : (b : Bool) (u : A) → (when b u >>= λ u. f (now u)) ≡ (when b (now u) >>= f)
    own true u = refl
    own false u = refl

    go : (o : Option A) → ((o >>= λ u. when (t (now u)) u) >>= λ u. f (now u)) ≡ (option_map now o >>= λ u. when (t u) u >>= f)
    go None = refl
    go (Some u) = own (t (now u)) u

-- ---- a number that may be missing

pub or_unwrap : (o : Option ℕ) (n : ℕ) → unwrap_or o n ≡ (o or n)
or_unwrap None n = refl
or_unwrap (Some k) n = refl

-- ---- dates

-- the date of a constraint is the one that was read
pub constraint_years : (k : ℕ) (o : Option Date) → IfGiven InYears o → IfGiven (λ (x : ℕ × Option Date). IfGiven InYears x.1) (constraint_from k o)
constraint_years k None h = alone (eqb k 1)
  where
    alone : (t : Bool) → IfGiven (λ (x : ℕ × Option Date). IfGiven InYears x.1) (when t (1, None))
    alone true = tt
    alone false = tt
constraint_years k (Some d) h = dated (eqb k 1) (within 2 7 k)
  where
    dated : (t u : Bool) → IfGiven (λ (x : ℕ × Option Date). IfGiven InYears x.1) (if t then Some (1, None) else when u (k, Some d))
    dated true u = tt
    dated false true = h
    dated false false = tt

-- ---- the record

pub activity_is : (a : Activity) {t : Element} → a.name.now ≡ (text_in t "Name" or []) → a.notes.now ≡ (text_in t "Notes" or []) → DatesOf t a.dates → ProgressOf t a.progress → a.uid.now ≡ (text_in t "UID" or [])
    → activity_by a ≡ activity_planned (given_by starred a.calendar) (starred a.id) a.plan t
unfolding activity_planned
activity_is a n o d g u = λ k. record {
  id = starred a.id;
  name = n k;
  kind = a.plan.kind;
  duration = a.plan.duration.days;
  minutes = a.plan.duration.minutes;
  parent = a.plan.parent;
  notes = o k;
  calendar = given_by starred a.calendar;
  constraint = d.constraint_is k;
  deadline = d.deadline_is k;
  start = d.start_is k;
  finish = d.finish_is k;
  percent = g.percent_is k;
  duration_type = g.type_is k;
  remaining = g.remaining_is k;
  uid = u k;
}

-- by the context, and those before it
pub activity_of_lem : (x : Context) (ids : List Text) (levels : List ℕ) (entered : Bool) (t : Element) (plan : Plan) {calendar : Option Text} {id : Text} {e : Bool} {day per_day : ℕ} {parent : Option ℕ}
    → e ≡ is_elapsed t → calendar ≡ calendar_by x e t → id ≡ free ids (wanted_id t) → day ≡ day_by e per_day → per_day ≡ x.per_day → parent ≡ parent_of levels (level_of t) → PlanOf day parent entered t plan
    → activity_planned calendar id plan t ≡ activity_of x ids levels entered t
unfolding activity_planned activity_of
activity_of_lem x ids levels entered t plan {day = day} he hc hi hd hp hq p =
    let d : day ≡ (if is_elapsed t then 1440 else x.per_day) = hd ∙ (λ k. day_by (he k) (hp k)) in
    λ k. record {
      id = hi k;
      name = text_in t "Name" or [];
      kind = p.kind_is k;
      duration = (rw d at p.days_is) k;
      minutes = (rw d at p.minutes_is) k;
      parent = (p.parent_is ∙ hq) k;
      notes = text_in t "Notes" or [];
      calendar = (hc ∙ ap (λ (e : Bool). calendar_by x e t) he) k;
      constraint = (activity_of x ids levels entered t).constraint;
      deadline = (activity_of x ids levels entered t).deadline;
      start = (activity_of x ids levels entered t).start;
      finish = (activity_of x ids levels entered t).finish;
      percent = (activity_of x ids levels entered t).percent;
      duration_type = (activity_of x ids levels entered t).duration_type;
      remaining = (activity_of x ids levels entered t).remaining;
      uid = text_in t "UID" or [];
    }

-- a record that does not fit may be any
pub row_puts : (x : Context) (ids : List Text) (levels : List ℕ) (entered : Bool) (t : Element) (plan : Plan) (id : Text) (stars : ℕ) {e : Bool} {day per_day : ℕ} {parent : Option ℕ} {d : List ℕ} {p : Place} {d' : List ℕ} {r : Place}
    → e ≡ is_elapsed t → {calendar : Option Text} → calendar ≡ calendar_by x e t → id ≡ wanted_id t → (inside (length d) p ≡ true → starred_by id stars ≡ free ids id) → day ≡ day_by e per_day → per_day ≡ x.per_day → parent ≡ parent_of levels (level_of t) → PlanOf day parent entered t plan
    → Puts (whole activity) (activity_planned calendar (starred_by id stars) plan t) d p d' r → Puts (whole activity) (activity_of x ids levels entered t) d p d' r
row_puts x ids levels entered t plan id stars {d = d} {p} {d'} {r} he hc hi hf hd hp hq pl h = by (inside (length d) p) refl
  where
    by : (b : Bool) → inside (length d) p ≡ b → Puts (whole activity) (activity_of x ids levels entered t) d p d' r
    by true i = put_same (activity_of_lem x ids levels entered t plan he hc (hf i ∙ ap (free ids) hi) hd hp hq pl) h
    by false i = put_any (activity_of x ids levels entered t) i h
