-- 01, Fields: "Dates: real Gregorian dates, year 1900 to 2199 (H). Times: hh 00 to 23, mm and ss 00 to 59. 12 digits in the 100 record, 14 elsewhere.
-- Next read date, load time and read time may be empty; other dates and times may not." In A day: "a date or time [is held] as the decimal number
-- its digits write, 0 if empty." And 02, 1, of a 500's read time.
use Rattle.std.specs.Prelude.{ℕ, ◌+◌, ◌*◌, ◌/◌, ◌%◌, List, Bool, cond, not, ◌&&◌, ◌||◌, leb, ltb, eqb, Option}
use Rattle.format.specs.Numbers.{that, or_empty, number_of}

unfoldable pub is_leap : ℕ → Bool
is_leap y = (eqb (y % 4) 0 && not (eqb (y % 100) 0)) || eqb (y % 400) 0

-- the days of month m of year y, for m from 1 to 12
unfoldable pub days_in_month : ℕ → ℕ → ℕ
days_in_month y m = cond (eqb m 2) (cond (is_leap y) 29 28) (cond (eqb m 4 || eqb m 6 || eqb m 9 || eqb m 11) 30 31)

unfoldable pub is_day : ℕ → ℕ → ℕ → Bool
is_day y m d = leb 1900 y && leb y 2199 && leb 1 m && leb m 12 && leb 1 d && leb d (days_in_month y m)

-- yyyymmdd
unfoldable pub is_date : ℕ → Bool
is_date t = is_day (t / 10000) (t / 100 % 100) (t % 100)

abbrev pub date_as : ℕ → ℕ → ℕ → ℕ
date_as y m d = y * 10000 + m * 100 + d

-- the next day of the month, or the first of the next month, or of the next year
unfoldable pub day_after : ℕ → ℕ
day_after t =
    let y = t / 10000 in
    let m = t / 100 % 100 in
    let d = t % 100 in
    cond (ltb d (days_in_month y m)) (date_as y m (d + 1))
    (cond (ltb m 12) (date_as y (m + 1) 1)
    (date_as (y + 1) 1 1))

-- yyyymmddhhmmss
unfoldable pub is_time : ℕ → Bool
is_time t = is_date (t / 1000000) && ltb (t / 10000 % 100) 24 && ltb (t / 100 % 100) 60 && ltb (t % 100) 60

-- yyyymmddhhmm
unfoldable pub is_minute : ℕ → Bool
is_minute t = is_time (t * 100)

unfoldable pub date_of : List ℕ → Option ℕ
date_of s = that is_date (number_of 8 8 s)

unfoldable pub time_of : List ℕ → Option ℕ
time_of s = that is_time (number_of 14 14 s)

-- the 100's, of 12 digits
unfoldable pub created_of : List ℕ → Option ℕ
created_of s = that is_minute (number_of 12 12 s)

unfoldable pub next_read_of : List ℕ → Option ℕ
next_read_of s = or_empty 0 date_of s

unfoldable pub load_of : List ℕ → Option ℕ
load_of s = or_empty 0 time_of s

-- 00:00:00 of the day after the last date
abbrev pub last_end : ℕ
last_end = 22000101000000

-- 02, 1: "A 500's field rule lets 22000101000000 through too."
unfoldable pub is_read_time : ℕ → Bool
is_read_time t = is_time t || eqb t last_end

-- one that is given
unfoldable pub taken_of : List ℕ → Option ℕ
taken_of s = that is_read_time (number_of 14 14 s)

-- the 500's
unfoldable pub read_time_of : List ℕ → Option ℕ
read_time_of s = or_empty 0 taken_of s
