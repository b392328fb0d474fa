-- A model as bytes. Document 01: six counts (calendars, main first; activities; links; resources; assignments; expenses), then a project record,
-- then the rest in that order, each record from a whole byte. What does not decode is refused with 6. Document 02, E2: a project has a fourth count, and
-- every model is decoded as one with it, whatever wrote it. Assumes nothing.
use Rattle.std.specs.Prelude.{ℕ, not, List, [], ◌∷◌, ◌++◌, length, eqb, ℤ}
use Rattle.std.specs.Prelude.{Option, Some, None}
use Rattle.definition.specs.Base.{◌>>=◌}
use Rattle.definition.specs.Text.{Text}
use Rattle.definition.specs.Date.{Date}
use Rattle.definition.specs.Bits.{Bits, bits_of, bytes_of}
use Rattle.definition.specs.Format.{Format, ◌⊗◌, via, depending, times, whole, count, row, flag, code, number, date, text, optional, list_of, periods, dates}
use Rattle.definition.specs.Model.{Project, Calendar, Activity, Link, Resource, Assignment, Expense, Model}
use Rattle.definition.specs.Calendar.{by_date}

-- the same values under names
abbrev pub named : {A B : Type 0} → (A → B) → (B → A) → Format A → Format B
named to from f = via (λ a. Some (to a)) from f

-- name, start, currency, counts skipped, dangling, across, fractional, optional data date
unfoldable pub project : Format Project
project =
    named
    (λ p. let (n, (s, (c, (k, (d, (a, (f, t))))))) = p in
    record { name = n; start = s; currency = c; skipped = k; dangling = d; across = a; fractional = f; data_date = t })
    (λ p. (p.name, (p.start, (p.currency, (p.skipped, (p.dangling, (p.across, (p.fractional, p.data_date))))))))
    (text ⊗ date ⊗ text ⊗ count ⊗ count ⊗ count ⊗ count ⊗ optional date)

-- name, seven flags from Monday, seven period lists, holidays, extra days, exceptions (date, period list; dates strictly rising)
unfoldable pub calendar : Format Calendar
calendar =
    named
    (λ p. let (n, (w, (h, (o, (x, e))))) = p in record { name = n; week = w; hours = h; holidays = o; extra_days = x; exceptions = e })
    (λ c. (c.name, (c.week, (c.hours, (c.holidays, (c.extra_days, c.exceptions))))))
    (text ⊗ times 7 flag ⊗ times 7 periods ⊗ dates ⊗ dates ⊗ list_of by_date (date ⊗ periods))

-- MSPDI's code 1 to 7, date unless 1
unfoldable pub constraint : Format (ℕ × Option Date)
constraint = depending (code 1 7) (λ k. not (eqb k 1)) date

-- id, name, kind, duration, optional minutes, optional parent row, notes, optional calendar name, optional constraint, optional deadline, start,
-- finish, percent, duration type, optional remaining, UID; start, finish and percent are optional
unfoldable pub activity : Format Activity
activity =
    named
    (λ p. let (i, (n, (k, (d, (m, (r, (o, (c, (t, (l, (s, (f, (q, (y, (z, u))))))))))))))) = p in
    record {
      id = i;
      name = n;
      kind = k;
      duration = d;
      minutes = m;
      parent = r;
      notes = o;
      calendar = c;
      constraint = t;
      deadline = l;
      start = s;
      finish = f;
      percent = q;
      duration_type = y;
      remaining = z;
      uid = u;
    })
    (λ a. (
      a.id,
      (
        a.name,
        (
          a.kind,
          (
            a.duration,
            (
              a.minutes,
              (
                a.parent,
                (
                  a.notes,
                  (
                    a.calendar,
                    (
                      a.constraint,
                      (a.deadline, (a.start, (a.finish, (a.percent, (a.duration_type, (a.remaining, a.uid)))))),
                    ),
                  ),
                ),
              ),
            ),
          ),
        ),
      ),
    ))
    (text ⊗ text ⊗ code 0 2 ⊗ number ⊗ optional number ⊗ optional row ⊗ text ⊗ optional text ⊗ optional constraint ⊗ optional date ⊗
    optional date ⊗ optional date ⊗ optional number ⊗ code 0 3 ⊗ optional number ⊗ text)

-- a lag's kind, with a number if it is Percent
abbrev pub lag_kind : Format (ℕ × Option ℤ)
lag_kind = depending (code 0 2) (eqb 2) number

-- predecessor and successor rows, kind, lag, optional minutes, lag kind, number if Percent
unfoldable pub link : Format Link
link =
    named
    (λ p. let (a, (b, (k, (l, (m, t))))) = p in record { predecessor = a; successor = b; kind = k; lag = l; minutes = m; lag_kind = t })
    (λ l. (l.predecessor, (l.successor, (l.kind, (l.lag, (l.minutes, l.lag_kind))))))
    (row ⊗ row ⊗ code 0 3 ⊗ number ⊗ optional number ⊗ lag_kind)

-- id, name, kind, unit, max units, optional calendar name, optional price
unfoldable pub resource : Format Resource
resource =
    named
    (λ p. let (i, (n, (k, (u, (m, (c, r)))))) = p in
    record { id = i; name = n; kind = k; unit = u; max_units = m; calendar = c; price = r })
    (λ r. (r.id, (r.name, (r.kind, (r.unit, (r.max_units, (r.calendar, r.price)))))))
    (text ⊗ text ⊗ code 0 2 ⊗ text ⊗ number ⊗ optional text ⊗ optional number)

-- activity row, resource row, planned, actual, optional remaining, optional rate
unfoldable pub assignment : Format Assignment
assignment =
    named
    (λ p. let (a, (r, (q, (d, (m, t))))) = p in record { activity = a; resource = r; planned = q; actual = d; remaining = m; rate = t })
    (λ a. (a.activity, (a.resource, (a.planned, (a.actual, (a.remaining, a.rate))))))
    (row ⊗ row ⊗ number ⊗ number ⊗ optional number ⊗ optional number)

-- activity row, name, planned, actual, optional remaining, accrual
unfoldable pub expense : Format Expense
expense =
    named
    (λ p. let (a, (n, (q, (d, (m, c))))) = p in record { activity = a; name = n; planned = q; actual = d; remaining = m; accrual = c })
    (λ e. (e.activity, (e.name, (e.planned, (e.actual, (e.remaining, e.accrual))))))
    (row ⊗ text ⊗ number ⊗ number ⊗ optional number ⊗ code 0 2)

-- ---- the whole

abbrev pub Counts : Type 0
Counts = ℕ × (ℕ × (ℕ × (ℕ × (ℕ × ℕ))))

abbrev pub counts : Format Counts
counts = count ⊗ count ⊗ count ⊗ count ⊗ count ⊗ count

abbrev pub counts_of : Model → Counts
counts_of m =
    (length m.calendars, (length m.activities, (length m.links, (length m.resources, (length m.assignments, length m.expenses)))))

-- the project and the records, so many of each
abbrev pub Body : Type 0
Body = Project × (List Calendar × (List Activity × (List Link × (List Resource × (List Assignment × List Expense)))))

unfoldable pub body : Counts → Format Body
body k =
    let (c, (a, (l, (r, (s, e))))) = k in
    whole project ⊗ times c (whole calendar) ⊗ times a (whole activity) ⊗ times l (whole link) ⊗ times r (whole resource) ⊗
    times s (whole assignment) ⊗ times e (whole expense)

abbrev pub body_of : Model → Body
body_of m = (m.project, (m.calendars, (m.activities, (m.links, (m.resources, (m.assignments, m.expenses))))))

abbrev pub model_from : Body → Model
model_from b =
    let (p, (c, (a, (l, (r, (s, e)))))) = b in
    record { project = p; calendars = c; activities = a; links = l; resources = r; assignments = s; expenses = e }

-- six counts are whole bytes, so the body stands as behind none
unfoldable pub model : Format Model
model = record {
  put = λ n m. counts.put n (counts_of m) ++ (body (counts_of m)).put n (body_of m);
  get = λ l. counts.get l >>= λ k. (body k.0).get k.1 >>= λ b. Some (model_from b.0, b.1);
}

unfoldable pub encode : Model → Text
encode m = bytes_of (model.put 0 m)

-- all bytes are used
abbrev pub at_end : {A : Type 0} → Option (A × Bits) → Option A
at_end None = None
at_end (Some (a, [])) = Some a
at_end (Some (a, (b ∷ l))) = None

unfoldable pub decode : Text → Option Model
decode s = at_end (model.get (bits_of s))
