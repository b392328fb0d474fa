-- The model's records, as document 01 lists them; the fourth count of a project is document 02's (E2). A kind is its code, from 0 in the order of the
-- Rust's enum. Rows count from 0. Assumes nothing.
use Rattle.std.specs.Prelude.{ℕ, Bool, List, ℤ}
use Rattle.std.specs.Prelude.{Option}
use Rattle.definition.specs.Text.{Text}
use Rattle.definition.specs.Date.{Date}
use Rattle.definition.specs.Format.{Period}

-- fractional: how many kept tasks have a Duration that gives minutes and was not whole
pub record Project : Type 0 where
  pub name : Text
  pub start : Date
  pub currency : Text
  pub skipped : ℕ
  pub dangling : ℕ
  pub across : ℕ
  pub fractional : ℕ
  pub data_date : Option Date

-- week and hours: seven each, Monday first
pub record Calendar : Type 0 where
  pub name : Text
  pub week : List Bool
  pub hours : List (List Period)
  pub holidays : List Date
  pub extra_days : List Date
  pub exceptions : List (Date × List Period)

-- kind: 0 Task, 1 StartMilestone, 2 FinishMilestone. constraint: MSPDI's code 1 to 7, with a date unless it is 1. duration_type: 0
-- FixedDurationAndRate, 1 FixedDurationAndUnits, 2 FixedRate, 3 FixedUnits
pub record Activity : Type 0 where
  pub id : Text
  pub name : Text
  pub kind : ℕ
  pub duration : ℤ
  pub minutes : Option ℤ
  pub parent : Option ℕ
  pub notes : Text
  pub calendar : Option Text
  pub constraint : Option (ℕ × Option Date)
  pub deadline : Option Date
  pub start : Option Date
  pub finish : Option Date
  pub percent : Option ℤ
  pub duration_type : ℕ
  pub remaining : Option ℤ
  pub uid : Text

-- kind: 0 FinishToStart, 1 StartToStart, 2 FinishToFinish, 3 StartToFinish. lag_kind: 0 Working, 1 Elapsed, 2 Percent with its number
pub record Link : Type 0 where
  pub predecessor : ℕ
  pub successor : ℕ
  pub kind : ℕ
  pub lag : ℤ
  pub minutes : Option ℤ
  pub lag_kind : ℕ × Option ℤ

-- kind: 0 Labor, 1 Nonlabor, 2 Material
pub record Resource : Type 0 where
  pub id : Text
  pub name : Text
  pub kind : ℕ
  pub unit : Text
  pub max_units : ℤ
  pub calendar : Option Text
  pub price : Option ℤ

pub record Assignment : Type 0 where
  pub activity : ℕ
  pub resource : ℕ
  pub planned : ℤ
  pub actual : ℤ
  pub remaining : Option ℤ
  pub rate : Option ℤ

-- accrual: 0 Start, 1 End, 2 Uniform
pub record Expense : Type 0 where
  pub activity : ℕ
  pub name : Text
  pub planned : ℤ
  pub actual : ℤ
  pub remaining : Option ℤ
  pub accrual : ℕ

-- calendars: the main one first
pub record Model : Type 0 where
  pub project : Project
  pub calendars : List Calendar
  pub activities : List Activity
  pub links : List Link
  pub resources : List Resource
  pub assignments : List Assignment
  pub expenses : List Expense
