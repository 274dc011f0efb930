-- A day that was read, handed on to be written, with the file as its text.
use Rattle.std.specs.Prelude.{ℕ, ◌/◌, ◌≤◌, ◌<◌, ◌≡◌, List, [], ◌∷◌, length, drop}
use Rattle.format.specs.Records.{unit_in, intervals_in}
use Rattle.format.specs.Answers.{Answer, accepted, refusal}
use Rattle.format.specs.Day.{Day, Five, over}
use Rattle.format.specs.Block.{Given, given, block_of, records_of}
use Rattle.theorems.specs.Grammar.{Record, IsRecord, Content}
use Rattle.theorems.specs.Days.{meanings, ReadsAs}

-- the date, n, times and unit that a reading answered (n is 1440 divided by the interval length) and the lists that it left, in the file
abbrev pub handed_on : List ℕ → ℕ → ℕ → ℕ → ℕ → ℕ → List ℕ → Five → Given
handed_on file date n update load unit vs ms =
    given (record { date = date; length = 1440 / n; update = update; load = load; unit = unit }) vs ms.flags ms.methods ms.reasons ms.starts ms.lengths file

-- what a writing of day k of a file answers, and leaves in the room
pub record WrittenAgain (k : ℕ) (content : Content) (room : List ℕ) (answer : Answer) (left : List ℕ) : Type 0 where
  -- the grammar's day k
  pub day : Day
  pub more : List Day
  pub is : drop k (meanings content) ≡ day ∷ more
  -- behind any 200 of its n and its unit, its block is that day
  pub same : (head : Record) → IsRecord 200 0 0 head → intervals_in head ≡ day.n → unit_in head ≡ day.unit → ReadsAs head (block_of day) day
  -- where it fits into the room it is written: "The answer gives the block's length and record count. Room behind the block keeps its bytes."
  pub written : length (block_of day) ≤ length room → (answer ≡ accepted (length (block_of day) ∷ records_of day ∷ [])) × (left ≡ over (block_of day) room)
  -- "the room is too short"
  pub no_room : length room < length (block_of day) → (answer ≡ refusal 15) × (left ≡ room)
