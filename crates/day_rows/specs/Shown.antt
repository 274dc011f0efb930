-- What is shown of a day: its table, or why there is none.
use Rattle.std.specs.Prelude.{ℕ, ◌+◌, ◌%◌, cond, List, [], ◌∷◌, ◌++◌, get_or, eqb}
use Rattle.ground.specs.Digits.{dec}
use Rattle.ground.specs.Text.{bytes}
use Rattle.format.specs.Answers.{Answer, accepted, refused}
use Rattle.format.specs.File.{check_of}
use Rattle.format.specs.declared.DayHead.{DayHead}
use Rattle.format.specs.declared.Refusal.{Refusal}
use Rattle.phrase.specs.Phrases.{line_text, counted_text}
use Rattle.tables.specs.Days.{title_text, headings, row_text}
use Rattle.records.specs.Records.{text_at}
use Rattle.explain.specs.Said.{explanation}

-- ---- why there is none

-- how many days there are to ask for
unfoldable pub days_there : ℕ → List ℕ
days_there days = cond (eqb days 0) (bytes "none") (counted_text days (bytes "day") ++ bytes ", numbered from 0")

unfoldable pub no_day : ℕ → List ℕ
no_day days = bytes "refused: 14, no such day: the file has " ++ days_there days ++ 10 ∷ []

-- the same of a day whose number is said, where several were asked for
unfoldable pub file_has : ℕ → List ℕ
file_has days = bytes "the file has " ++ days_there days ++ 10 ∷ []

unfoldable pub no_such_day : ℕ → ℕ → List ℕ
no_such_day day days = bytes "refused: 14, no such day: " ++ dec day ++ bytes "; " ++ file_has days

-- 14 by the answer of a check: version, channels and days, or the first refusal
abbrev pub no_day_text : List ℕ → Answer → List ℕ
no_day_text file (accepted xs) = no_day (get_or xs 2 0)
no_day_text file (refused x p k i) = explanation file (record { number = x; place = p; «record» = k; field = i })

-- of 14, the days that there are are said too
unfoldable pub refused_text : List ℕ → Refusal → List ℕ
refused_text file x = cond (eqb x.number 14) (no_day_text file (check_of file)) (explanation file x)

-- ---- the table

unfoldable pub top_text : DayHead → ℕ → List ℕ
top_text day n = line_text (title_text day n) ++ line_text headings

-- interval i of six lists, of n in its day, counted from 1; no day has more than 288, so the remainder is i itself
unfoldable pub interval_row : List ℕ → ℕ → ℕ → List ℕ → List ℕ → List ℕ → List ℕ → List ℕ → List ℕ → List ℕ
interval_row file i n values flags methods reasons starts lengths =
    line_text
    (row_text (i % 288 + 1) n (get_or values i 0) (get_or flags i 0) (get_or methods i 0) (get_or reasons i 0) (text_at file (get_or starts i 0) (get_or lengths i 0)) 0)

-- the minutes of an interval, n of which make a day
unfoldable pub minutes_of : ℕ → ℕ
minutes_of n = cond (eqb n 288) 5 (cond (eqb n 96) 15 30)
