use Rattle.names.proofs.Wording.{main_missing, main_given, filled_none, filled}
use Rattle.names.proofs.calendars.CalendarNames.note_all.Goals as goal

pub returns-in_default : goal.returns-in_default
returns-in_default c = filled_none c.requires (main_missing _ c.main_calendar.ensures.is c.in_default.is) (rw c.name_at.ensures at c.set_word.ensures)

pub returns : goal.returns
returns c = filled c.requires (main_given _ c.main_calendar.ensures.is c.in-Some.is c.calendar_text.ensures c.stars_of.ensures) c.note_names.ensures c.word_of-elapsed.ensures (rw c.name_at-2.ensures at c.set_word-2.ensures)
