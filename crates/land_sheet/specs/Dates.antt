-- Moments as dates of the proleptic Gregorian calendar and times of the day, in UTC.
use Rattle.std.specs.Prelude.{◌≡◌, ◌++◌, ◌/◌, ◌%◌, List, ℕ, ℤ, pos, codes, unsigned_abs}
use Rattle.jiff_core.specs.Calendar.{IsCivilDate, days_from_civil}
use Rattle.jiff_core.specs.declared.civil.date.Date.{Date}
use Rattle.land_sheet.specs.Widths.{zeros}

-- a year, a month of it and a day of that month
pub record CivilDate : Type 0 where
  pub year : ℤ
  pub month : ℕ
  pub day : ℕ

-- the date is valid, and is this number of days after 1 January 1970
pub record IsDateOf (number : ℕ) (date : CivilDate) : Type 0 where
  pub in_calendar : IsCivilDate date.year date.month date.day
  pub number_is : days_from_civil date.year date.month date.day ≡ pos number

-- the date of a value of the calendar crate
abbrev pub civil_date : Date → CivilDate
civil_date date = record { year = date.year; month = date.month; day = date.day }

-- the number of whole days from the start of 1970 to a moment
abbrev pub day_number : (moment : ℕ) → ℕ
day_number moment = moment / 86400000

-- `YYYY-MM-DD`
abbrev pub date_text : CivilDate → List ℕ
date_text date =
    zeros 4 (unsigned_abs date.year) ++ (codes "-" ++ (zeros 2 date.month ++ (codes "-" ++ zeros 2 date.day)))

-- `HH:MM:SS.mmm`: the time since the start of the day, in hours, minutes, seconds and milliseconds
abbrev pub time_text : (moment : ℕ) → List ℕ
time_text moment =
    zeros 2 (moment / 3600000 % 24) ++ (codes ":" ++ (zeros 2 (moment / 60000 % 60) ++ (codes ":"
    ++ (zeros 2 (moment / 1000 % 60) ++ (codes "." ++ zeros 3 (moment % 1000))))))
