-- Which day of a file has an NMI, a suffix and a date. The tickets of 02, Key: "Letters compare without case".
use Rattle.std.specs.Prelude.{ℕ, ◌+◌, ◌-◌, Bool, false, cond, ◌&&◌, List, [], ◌∷◌, length, get_or, take, drop, eqb, Option, Some, None}
use Rattle.format.specs.Cut.{field}
use Rattle.format.specs.Day.{DayRows, days_of}
use Rattle.format.specs.Numbers.{number_of}
use Rattle.format.specs.Records.{date_in}
use Rattle.format.specs.Units.{same_letters}

-- the day has this key: the NMI and the suffix of its 200, the date of its 300
unfoldable pub has_key : List ℕ → List ℕ → ℕ → DayRows → Bool
has_key nmi suffix date d =
    same_letters (field 1 d.channel.cells) nmi && (same_letters (field 4 d.channel.cells) suffix && eqb (date_in d.block.top.cells) date)

-- the first of these days is such a one
abbrev pub is_first : (DayRows → Bool) → List DayRows → Bool
is_first is [] = false
is_first is (d ∷ ds) = is d

-- the number of the first of these days that is such a one, where the first of them has the number k
unfoldable pub first_from : (DayRows → Bool) → ℕ → List DayRows → Option ℕ
first_from is k [] = None
first_from is k (d ∷ ds) = cond (is d) (Some k) (first_from is (k + 1) ds)

-- the days of a file from the number k on, up to `end`, that one left out
abbrev pub days_up_to : List ℕ → ℕ → ℕ → List DayRows
days_up_to file k end = take (end - k) (drop k (days_of file))

-- ---- the words of a key

-- a date as people write it, 2003-12-19
unfoldable pub is_dashed : List ℕ → Bool
is_dashed s = eqb (length s) 10 && (eqb (get_or s 4 0) 45 && eqb (get_or s 7 0) 45)

abbrev pub undashed : List ℕ → List ℕ
undashed s = get_or s 0 0 ∷ get_or s 1 0 ∷ get_or s 2 0 ∷ get_or s 3 0 ∷ get_or s 5 0 ∷ get_or s 6 0 ∷ get_or s 8 0 ∷ get_or s 9 0 ∷ []

-- a date as a number, from 2003-12-19 or 20031219
unfoldable pub date_word : List ℕ → Option ℕ
date_word s = number_of 8 8 (cond (is_dashed s) (undashed s) s)
