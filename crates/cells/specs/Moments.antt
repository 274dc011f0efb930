-- From when to when an interval goes.
use Rattle.std.specs.Prelude.{ℕ, ◌+◌, ◌*◌, ◌/◌, ◌%◌, cond, List, ◌++◌, ltb}
use Rattle.phrase.specs.Phrases.{clock_text}

-- how many minutes k intervals have, n of which make a day; 0 where n is 0
unfoldable pub minutes_of : ℕ → ℕ → ℕ
minutes_of k n = k * 1440 / n

-- so many minutes behind the day's midnight: the text of today, or, where they make a full day, of the day after, and a clock
unfoldable pub moment_text : List ℕ → List ℕ → ℕ → List ℕ
moment_text today after minutes = cond (ltb minutes 1440) today after ++ clock_text (minutes / 60 % 24) (minutes % 60)

-- interval i from 0, of n in its day, starts where i intervals have passed, and ends where i + 1 have; no day has more than 288, so the remainder is i itself
unfoldable pub start_text : List ℕ → List ℕ → ℕ → ℕ → List ℕ
start_text today after i n = moment_text today after (minutes_of (i % 288) n)

unfoldable pub end_text : List ℕ → List ℕ → ℕ → ℕ → List ℕ
end_text today after i n = moment_text today after (minutes_of (i % 288 + 1) n)
