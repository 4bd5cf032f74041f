-- Moments in nanoseconds from the first of January 1970, UTC, as dates (the Gregorian calendar, ISO 8601).
use Rattle.std.specs.Prelude.{ℕ, ◌+◌, ◌-◌, ◌*◌, ◌/◌, ◌%◌, ◌==◌, ◌&&◌, ◌||◌, not, nat_le, if◌then◌else◌, Bool, List, [], ◌∷◌}
use Rattle.std.specs.Prelude.{codes, count_by, decimal, slice_index}
use Rattle.std.specs.List.{range_with_len}
use Rattle.report_page.specs.declared.moment.Date.{Date}
use Rattle.report_page.specs.Texts.{◌then◌}

-- a year has a 29th of February
abbrev pub is_leap : ℕ → Bool
is_leap year = year % 4 == 0 && (not (year % 100 == 0) || year % 400 == 0)

-- the days from the first of January 1970 to that of a year: 365 each, and one for each leap year between
abbrev pub days_before_year : ℕ → ℕ
days_before_year year = 365 * (year - 1970) + (year - 1969) / 4 - (year - 1901) / 100 + (year - 1601) / 400

-- the year of a day: as many years behind 1970 have begun
unfoldable pub year_of : ℕ → ℕ
year_of day = 1970 + count_by (λ year. nat_le (days_before_year year) day) (range_with_len 1971 600)

-- the days of a year before each of its months, where it is no leap year
abbrev pub days_before : List ℕ
days_before = 0 ∷ 31 ∷ 59 ∷ 90 ∷ 120 ∷ 151 ∷ 181 ∷ 212 ∷ 243 ∷ 273 ∷ 304 ∷ 334 ∷ []

-- the days of a year before a month behind its first, by its number from 0
abbrev pub days_before_month : Bool → ℕ → ℕ
days_before_month leap month = slice_index days_before month + (if leap && nat_le 2 month then 1 else 0)

-- the month of a day of a year, from 0: as many months behind January have begun
unfoldable pub month_of : Bool → ℕ → ℕ
month_of leap day = count_by (λ month. nat_le (days_before_month leap month) day) (range_with_len 1 11)

-- a number below 100 in two digits
abbrev pub two_digits : ℕ → List ℕ
two_digits n = decimal (n / 10) then decimal (n % 10)

-- the date of a day: its year, its month from 1 and its day of the month from 1
unfoldable pub date_of : ℕ → Date
date_of day =
    let year = year_of day in
    let rest = day - days_before_year year in
    let month = month_of (is_leap year) rest in
    record { year = year; month = month + 1; day = rest - days_before_month (is_leap year) month + 1 }

-- a date, as 2026-11-29
unfoldable pub date_text : Date → List ℕ
date_text date = decimal date.year then codes "-" then two_digits date.month then codes "-" then two_digits date.day

-- the time of a second of a day, as 05:07:09
unfoldable pub time_text : ℕ → List ℕ
time_text second = two_digits (second / 3600) then codes ":" then two_digits (second / 60 % 60) then codes ":" then two_digits (second % 60)

-- a moment to the second, as 2026-11-29 05:07:09 UTC
unfoldable pub moment_text : ℕ → List ℕ
moment_text moment =
    let second = moment / 1000000000 in
    date_text (date_of (second / 86400)) then codes " " then time_text (second % 86400) then codes " UTC"
