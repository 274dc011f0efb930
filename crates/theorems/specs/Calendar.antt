-- Dates by their order alone, without a word of months and leap years: what 02, 1's "day after" has to be, and when a read time is within a day.
use Rattle.std.specs.Prelude.{ℕ, ◌*◌, ◌≤◌, ◌<◌, ◌≡◌, true}
use Rattle.format.specs.Dates.{is_date, day_after}

-- u is the least date later than t
pub record NextDate (t u : ℕ) : Type 0 where
  pub is-date : is_date u ≡ true
  pub later : t < u
  pub least : (v : ℕ) → is_date v ≡ true → t < v → u ≤ v

-- x is later than 00:00:00 of the date t, and not later than 00:00:00 of the day after: "the end of a day is 00:00 of the next day"
abbrev pub UpToEnd : ℕ → ℕ → Type 0
UpToEnd t x = (t * 1000000 < x) × (x ≤ day_after t * 1000000)
