-- The commonest shapes of a date and a time.
use Rattle.std.specs.Prelude.{ℕ, List, Bool, cond, not, ◌&&◌, ◌||◌, length, get_or, leb, eqb}
use Rattle.ground.specs.Digits.{is_digit}

-- ---- two digits, by the ranges of the bytes

-- 01 to 12
unfoldable pub is_month : ℕ → ℕ → Bool
is_month a b = cond (eqb a 48) (leb 49 b && leb b 57) (eqb a 49 && leb 48 b && leb b 50)

-- 01 to 28, the days that every month has
unfoldable pub is_early_day : ℕ → ℕ → Bool
is_early_day a b = is_digit b && cond (eqb a 48) (not (eqb b 48)) (eqb a 49 || (eqb a 50 && not (eqb b 57)))

-- 00 to 23
unfoldable pub is_hour : ℕ → ℕ → Bool
is_hour a b = is_digit b && cond (eqb a 50) (leb b 51) (leb 48 a && leb a 49)

-- 00 to 59
unfoldable pub is_sixtieth : ℕ → ℕ → Bool
is_sixtieth a b = leb 48 a && leb a 53 && is_digit b

-- ---- dates and times

-- the first eight bytes: an early day of a year that begins with 20
unfoldable pub starts_date : List ℕ → Bool
starts_date s =
    eqb (get_or s 0 0) 50 && eqb (get_or s 1 0) 48 && is_digit (get_or s 2 0) && is_digit (get_or s 3 0)
    && is_month (get_or s 4 0) (get_or s 5 0) && is_early_day (get_or s 6 0) (get_or s 7 0)

-- the six bytes behind them: hour, minute and second
unfoldable pub ends_time : List ℕ → Bool
ends_time s = is_hour (get_or s 8 0) (get_or s 9 0) && is_sixtieth (get_or s 10 0) (get_or s 11 0) && is_sixtieth (get_or s 12 0) (get_or s 13 0)

unfoldable pub is_common_date : List ℕ → Bool
is_common_date s = eqb (length s) 8 && starts_date s

unfoldable pub is_common_time : List ℕ → Bool
is_common_time s = eqb (length s) 14 && starts_date s && ends_time s
