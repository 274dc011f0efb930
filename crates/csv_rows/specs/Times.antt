-- Dates and times, with a T between the date and the clock.
use Rattle.std.specs.Prelude.{ℕ, ◌/◌, ◌%◌, List, ◌++◌}
use Rattle.ground.specs.Text.{bytes}
use Rattle.phrase.specs.Phrases.{two_text, date_text, clock_text}

-- 20031219 as 2003-12-19T, for a clock behind it
unfoldable pub day_text : ℕ → List ℕ
day_text d = date_text d ++ bytes "T"

-- 20230409062035 as 2023-04-09T06:20:35
unfoldable pub seconds_text : ℕ → List ℕ
seconds_text t = day_text (t / 1000000) ++ clock_text (t / 10000 % 100) (t / 100 % 100) ++ bytes ":" ++ two_text (t % 100)
