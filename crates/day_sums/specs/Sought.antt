-- The tickets of 02, 12: "the file's refusal, 14 for the day". A day of a file that was looked for by its number from 0.
use Rattle.std.specs.Prelude.{ℕ, ◌≤◌, List, [], ◌∷◌, length, drop, Result, Ok, Err}
use Rattle.format.specs.Answers.{Answer, accepted, refused, refusal, refused_as}
use Rattle.format.specs.File.{check_of}
use Rattle.format.specs.Day.{DayRows, days_of}
use Rattle.day.specs.Places.{Heads, day_at}
use Rattle.day_sums.specs.declared.DayAt.{DayAt}
use Rattle.format.specs.declared.Refusal.{Refusal}

pub data Sought : Type 0 where
  found : DayRows → Sought
  missing : Answer → Sought

-- of the days from the one that is asked for, the first: none is 14
abbrev pub sought_first : List DayRows → Sought
sought_first [] = missing (refusal 14)
sought_first (d ∷ ds) = found d

abbrev pub sought_after : Answer → Sought → Sought
sought_after (accepted xs) s = s
sought_after (refused x p k i) s = missing (refused x p k i)

unfoldable pub day_in : List ℕ → ℕ → Sought
day_in file day = sought_after (check_of file) (sought_first (drop day (days_of file)))

-- ---- as places of the file

-- the day whose 300 and 200 stand there
abbrev pub rows_of : List ℕ → DayAt → DayRows
rows_of file d = day_at file d.start d.end d.under

abbrev pub sought_as : List ℕ → Result DayAt Refusal → Sought
sought_as file (Ok d) = found (rows_of file d)
sought_as file (Err x) = missing (refused_as x)

-- they lie in the file
pub record Within (file : List ℕ) (d : DayAt) : Type 0 where
  pub order : d.start ≤ d.end
  pub inside : d.end ≤ length file
  pub heads : Heads file d.under

abbrev pub within_as : List ℕ → Result DayAt Refusal → Type 0
within_as file (Ok d) = Within file d
within_as file (Err x) = Unit
