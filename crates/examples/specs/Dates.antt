-- Document 01's date: 2024-02-29 is day number 19,782, a Thursday. Assumes nothing.
use Rattle.std.specs.Prelude.{◌≡◌, refl, pos}
use Rattle.std.specs.Prelude.{Some}
use Rattle.definition.specs.Ascii.{bytes}
use Rattle.definition.specs.Text.{trim, trim_front, trim_back, strip, front_width, back_width, before, after, signed_of, unsigned_of, sign_of, digits, digits_after}
use Rattle.definition.specs.Date.{Date, date_of, date_parts, first_ten, from_ymd, year_at, date_at, new_year, years_length, year_length, months_length, month_length, leap, day_number, from_days, weekday}

-- 29 February of the year 2024, the 12,024th from -10000 on
abbrev pub leap_day : Date
leap_day = date_at 12024 2 29

pub leap_day_text : date_of (bytes "2024-02-29") ≡ Some leap_day
unfolding date_of first_ten trim trim_front trim_back strip front_width back_width date_parts before after signed_of unsigned_of sign_of digits digits_after from_ymd year_at month_length leap
leap_day_text = refl

pub leap_day_number : day_number leap_day ≡ pos 19782
unfolding day_number date_at new_year years_length year_length months_length month_length leap
leap_day_number = refl

pub leap_day_back : from_days (pos 19782) ≡ Some leap_day
unfolding from_days date_at new_year years_length year_length months_length month_length leap
leap_day_back = refl

-- Thursday, where Monday is 0
pub leap_day_weekday : weekday leap_day ≡ 3
unfolding weekday date_at new_year years_length year_length months_length month_length leap
leap_day_weekday = refl
