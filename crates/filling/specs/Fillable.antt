-- What has to hold before a day is read at its place, and before it is filled into lists.
use Rattle.std.specs.Prelude.{ℕ, ◌+◌, ◌≤◌, ◌≡◌, List, true, cond, length}
use Rattle.format.specs.Answers.{refusal}
use Rattle.format.specs.Day.{BlockRows, Five, Outcome, outcome, room_for, read_into}
use Rattle.lists.specs.Lists.{Roomy}
use Rattle.passing.specs.Sound.{is_sound}
use Rattle.day.specs.Places.{block_at}

-- a sound day of n intervals in that unit has its 300 from a to e
pub record Here (file : List ℕ) (a e n unit : ℕ) : Type 0 where
  pub order : a ≤ e
  pub within : e + 2 ≤ length file
  pub sound : is_sound (block_at file a e n unit) ≡ true

-- and the lists have room for it
pub record Fillable (file : List ℕ) (a e n unit : ℕ) (vs : List ℕ) (ms : Five) : Type 0 where
  pub here : Here file a e n unit
  pub values : n ≤ length vs
  pub marks : Roomy n ms

-- a day's block read into the lists, or 15 and the lists as they were
abbrev pub day_into : BlockRows → List ℕ → Five → Outcome
day_into d vs ms = cond (room_for d.n vs ms) (read_into d vs ms) (outcome (refusal 15) vs ms)
