use mathlib.Core.Bool.{true, false}
use Rattle.definition.specs.Recurrence.{fits}
use Rattle.recurrence.specs.Kind.{daily_fits, yearly_fits, monthly_fits, weekly_fits}
use Rattle.recurrence.specs.Meaning.{as_rule}
use Rattle.recurrence.proofs.Fits.{fits_1, fits_2, fits_3, fits_4, fits_5, fits_6}
use Rattle.recurrence.proofs.Runs.{fit_by}
use Rattle.recurrence.proofs.Types.{of_kind}
use Rattle.recurrence.proofs.kind.Search.first_fit.Goals as goal

pub returns-in-Daily : goal.returns-in-Daily
returns-in-Daily c =
    let r = c.args.self.r in
    let e = of_kind c.args.self.r.rule.kind c.args.self.r.rule.month c.requires c.in-Daily.is in
    fit_by (daily_fits r) (fits (as_rule r)) _ _ _ (λ d. fits_1 r d e) c.daily.ensures

pub returns-in-YearlyByDay : goal.returns-in-YearlyByDay
returns-in-YearlyByDay c =
    let r = c.args.self.r in
    let e = of_kind c.args.self.r.rule.kind c.args.self.r.rule.month c.requires c.in-YearlyByDay.is in
    fit_by (yearly_fits false r c.in-YearlyByDay.month) (fits (as_rule r)) _ _ _ (λ d. fits_2 r d _ e.1 e.0) c.yearly.ensures

pub returns-in-YearlyByPosition : goal.returns-in-YearlyByPosition
returns-in-YearlyByPosition c =
    let r = c.args.self.r in
    let e = of_kind c.args.self.r.rule.kind c.args.self.r.rule.month c.requires c.in-YearlyByPosition.is in
    fit_by (yearly_fits true r c.in-YearlyByPosition.month) (fits (as_rule r)) _ _ _ (λ d. fits_3 r d _ e.1 e.0) c.yearly-in-YearlyByPosition.ensures

pub returns-in-MonthlyByDay : goal.returns-in-MonthlyByDay
returns-in-MonthlyByDay c =
    let r = c.args.self.r in
    let e = of_kind c.args.self.r.rule.kind c.args.self.r.rule.month c.requires c.in-MonthlyByDay.is in
    fit_by (monthly_fits false r) (fits (as_rule r)) _ _ _ (λ d. fits_4 r d e) c.monthly.ensures

pub returns-in-MonthlyByPosition : goal.returns-in-MonthlyByPosition
returns-in-MonthlyByPosition c =
    let r = c.args.self.r in
    let e = of_kind c.args.self.r.rule.kind c.args.self.r.rule.month c.requires c.in-MonthlyByPosition.is in
    fit_by (monthly_fits true r) (fits (as_rule r)) _ _ _ (λ d. fits_5 r d e) c.monthly-in-MonthlyByPosition.ensures

pub returns-in-Weekly : goal.returns-in-Weekly
returns-in-Weekly c =
    let r = c.args.self.r in
    let e = of_kind c.args.self.r.rule.kind c.args.self.r.rule.month c.requires c.in-Weekly.is in
    fit_by (weekly_fits r) (fits (as_rule r)) _ _ _ (λ d. fits_6 r d e) c.weekly.ensures
