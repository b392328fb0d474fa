-- `names::calendars::CalendarNames::is_main` meets its contract. Assumes nothing.
use mathlib.Core.Path.{sym, ap, ◌∙◌}
use Rattle.definition.specs.Base.{same}
use Rattle.definition.specs.Ascii.{bytes}
use Rattle.tree.specs.Root.{root_at}
use Rattle.pack.specs.Value.{starred_by}
use Rattle.names.specs.Stars.{star_none}
use Rattle.names.specs.ByUid.{main_there, main_absent}
use Rattle.names.proofs.Found.{is_there, is_absent, main_same}
use Rattle.names.proofs.calendars.CalendarNames.is_main.Goals as goal

pub returns-in-Some : goal.returns-in-Some
returns-in-Some c =
    let a = c.args in
    let x = c.main_calendar in
    let t = starred_by a.text.now a.stars in
    c.same_starred.ensures ∙ main_same a.self.out.now a.self.start (root_at a.self.root) _ _ c.calendar_text.ensures t c.stars_of-m.ensures ∙ ap (same t) (sym (main_there a.self.out.now a.self.start (root_at a.self.root) _ (is_there x.result x.ensures.is c.in-Some.is)))

pub returns-in-None : goal.returns-in-None
returns-in-None c =
    let a = c.args in
    let x = c.main_calendar in
    let t = starred_by a.text.now a.stars in
    c.same_starred-in-None.ensures ∙ ap (same t) (star_none (bytes "Standard") ∙ sym (main_absent a.self.out.now a.self.start (root_at a.self.root) (is_absent x.result x.ensures.is c.in-None.is)))
