-- The day that a block says, where the lists are taken together: fit, and how long its block is.
use Rattle.std.specs.Prelude.{ℕ, ◌≤◌, ◌<◌, ◌≡◌, List, Bool, true, cond, ◌&&◌, length, Option, Some, None}
use Rattle.ground.specs.Lists.{all, from}
use Rattle.format.specs.Units.{decimals_of}
use Rattle.format.specs.Day.{Five, Day}
use Rattle.format.specs.Block.{fit_value, values_text, block_of, records_of}
use Rattle.format.specs.declared.DayHead.{DayHead}
use Rattle.fit.specs.Tags.{marks_from, fit_marks, Long}
use Rattle.heads.specs.Heads.{fit_head}

-- the day of n intervals that has these values and the marks of these lists
unfoldable pub day_with : DayHead → ℕ → List ℕ → Five → List ℕ → Day
day_with h n vs l text =
    record { date = h.date; n = n; unit = h.unit; update = h.update; load = h.load; values = vs; marks = from (marks_from l text) 0 n }

unfoldable pub fit_with : DayHead → ℕ → List ℕ → Five → List ℕ → Bool
fit_with h n vs l text = fit_head h && all (fit_value (decimals_of h.unit)) vs && fit_marks l text n

-- the bytes of a fit day's values
unfoldable pub fit_of : DayHead → ℕ → List ℕ → Five → List ℕ → Option ℕ
fit_of h n vs l text = cond (fit_with h n vs l text) (Some (length (values_text vs))) None

-- a day whose lists are as long as they should be
pub record Ready (n : ℕ) (vs : List ℕ) (l : Five) : Type 0 where
  pub some : 0 < n
  pub few : n ≤ 288
  pub values : length vs ≡ n
  pub long : Long n l

-- and which is fit
pub record FitDay (h : DayHead) (n : ℕ) (vs : List ℕ) (l : Five) (text : List ℕ) : Type 0 where
  pub ready : Ready n vs l
  pub fit : fit_with h n vs l text ≡ true

-- the block of a day has so many bytes and records
pub record Sizes (d : Day) (bytes records : ℕ) : Type 0 where
  pub bytes-are : bytes ≡ length (block_of d)
  pub records-are : records ≡ records_of d
