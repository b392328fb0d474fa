-- A record is put as its fields. Assumes nothing.
use Prim.Native.Nat.{ℕ}
use mathlib.Core.List.{List}
use Rattle.definition.specs.Model.{Project, Activity, Link, Resource, Assignment, Expense}
use Rattle.std.proofs.Common.{ap, append-nil}
use Rattle.definition.specs.Answer.{each_of}
use Rattle.definition.specs.Bits.{Bits}
use Rattle.definition.specs.Format.{◌⊗◌, times, put_all, row, count, code, number, date, text, optional}
use Rattle.definition.specs.Pack.{lag_kind, project, activity, link, resource, assignment, expense, counts}
use Rattle.laws.specs.Buf.{◌▷◌}
use Rattle.bits.specs.Steps.{Puts, put_via, said, view}
use Rattle.bits.specs.declared.Place.{Place}
use Rattle.pack.specs.Record.{schedule_fields, schedule_of, Counts, counts_by}

module _ {d : List ℕ} {p : Place} {d' : List ℕ} {q : Place} where
  pub put_project : (x : Project) → Puts (text ⊗ date ⊗ text ⊗ count ⊗ count ⊗ count ⊗ count ⊗ optional date) (x.name, (x.start, (x.currency, (x.skipped, (x.dangling, (x.across, (x.fractional, x.data_date))))))) d p d' q
      → Puts project x d p d' q
  unfolding project
  put_project x h = put_via _ _ h

  pub put_link : (x : Link) → Puts (row ⊗ row ⊗ code 0 3 ⊗ number ⊗ optional number ⊗ lag_kind) (x.predecessor, (x.successor, (x.kind, (x.lag, (x.minutes, x.lag_kind))))) d p d' q
      → Puts link x d p d' q
  unfolding link
  put_link x h = put_via _ _ h

  pub put_resource : (x : Resource) → Puts (text ⊗ text ⊗ code 0 2 ⊗ text ⊗ number ⊗ optional text ⊗ optional number) (x.id, (x.name, (x.kind, (x.unit, (x.max_units, (x.calendar, x.price)))))) d p d' q
      → Puts resource x d p d' q
  unfolding resource
  put_resource x h = put_via _ _ h

  pub put_assignment : (x : Assignment) → Puts (row ⊗ row ⊗ number ⊗ number ⊗ optional number ⊗ optional number) (x.activity, (x.resource, (x.planned, (x.actual, (x.remaining, x.rate))))) d p d' q
      → Puts assignment x d p d' q
  unfolding assignment
  put_assignment x h = put_via _ _ h

  pub put_expense : (x : Expense) → Puts (row ⊗ text ⊗ number ⊗ number ⊗ optional number ⊗ code 0 2) (x.activity, (x.name, (x.planned, (x.actual, (x.remaining, x.accrual))))) d p d' q
      → Puts expense x d p d' q
  unfolding expense
  put_expense x h = put_via _ _ h

  pub put_activity : (x : Activity) → Puts (text ⊗ text ⊗ code 0 2 ⊗ number ⊗ optional number ⊗ optional row ⊗ schedule_fields) (x.id, (x.name, (x.kind, (x.duration, (x.minutes, (x.parent, schedule_of x)))))) d p d' q
      → Puts activity x d p d' q
  unfolding activity
  put_activity x h = put_via _ _ h

  -- counts are a list of six
  pub put_six : (x : Counts) → Puts (times 6 count) (each_of x) d p d' q → Puts counts (counts_by x) d p d' q
  unfolding times put_all ◌⊗◌
  put_six x h = record { step = said h.step _ (ap (λ (l : Bits). view d p ▷ l) (simp (append-nil))) }
