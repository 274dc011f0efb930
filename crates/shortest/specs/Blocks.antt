-- Which day a reading finds in the bytes of a day block, and what it is for a block that says a day to stand in a file.
use Rattle.std.specs.Prelude.{ℕ, ◌<◌, ◌≡◌, true, List, [], ◌∷◌, ◌++◌, map, length, take, drop}
use Rattle.format.specs.Quality.{Mark}
use Rattle.format.specs.Numbers.{is_number}
use Rattle.format.specs.Units.{unit_of}
use Rattle.format.specs.Cut.{lines, field}
use Rattle.format.specs.Records.{unit_field, decimals_in, intervals_in}
use Rattle.format.specs.Answers.{accepted}
use Rattle.format.specs.Order.{Due, begun}
use Rattle.format.specs.File.{walk_of, check_of}
use Rattle.format.specs.Day.{Row, Day, days_from, Five, outcome, over, over_five, room_for, read_of}
use Rattle.format.specs.declared.Tag.{Tag}
use Rattle.passing.specs.Passes.{kinds_of, unit_before, Accepted, Awaits}
use Rattle.theorems.specs.Days.{meant}

-- ---- read as a day

-- read at the place p of a file, under the 200 c, the bytes b are one day, and it is d
abbrev pub Reads : ℕ → Row → List ℕ → Day → Type 0
Reads p c b d = map meant (days_from p c (lines b)) ≡ d ∷ []

-- the 200 c is one that a day stands under where the state is st: of that n, and in a unit of those decimals
pub record HeadOf (st : Due) (c : Row) : Type 0 where
  pub intervals : intervals_in c.cells ≡ st.n
  pub unit : is_number (unit_of (field unit_field c.cells)) ≡ true
  pub decimals : decimals_in c.cells ≡ st.decimals

-- the bytes b are accepted as a block, wherever that may be, and the day that is read from them there is d
pub record Says (b : List ℕ) (d : Day) : Type 0 where
  pub st : Due
  pub accepted : Accepted st b
  pub place : ℕ
  pub channel : Row
  pub under : HeadOf st channel
  pub reads : Reads place channel b d

-- ---- in a file

-- the mark that a reading leaves of an interval: flag, method, reason, and the bytes of the file at the description's start and length
abbrev pub mark_of : List ℕ → Tag → Mark
mark_of file t = record { flag = t.flag; method = t.method; reason = t.reason; text = take t.length (drop t.start file) }

-- a reading of the day of this number answers and leaves the day d, in any lists that are long enough
pub record Read (file : List ℕ) (number : ℕ) (d : Day) : Type 0 where
  pub tags : List Tag
  pub marks : map (mark_of file) tags ≡ d.marks
  pub answers : (vs : List ℕ) (ms : Five) → room_for d.n vs ms ≡ true
      → read_of file number vs ms ≡ outcome (accepted (d.date ∷ d.n ∷ d.update ∷ d.load ∷ d.unit ∷ [])) (over d.values vs) (over_five tags ms)

-- a block b that says the day d stands in a file behind bytes that lead to the state st: the check goes on behind it, from the state `end`, with the place
-- and the record number that follow; a block of a later date may stand there; and where the file is accepted, d is the day that is read next after those before it
pub record Stands (before b behind : List ℕ) (st : Due) (d : Day) : Type 0 where
  pub end : Due
  pub goes_on : walk_of begun 0 0 (lines (before ++ b ++ behind)) ≡ walk_of end (length (before ++ b)) (length (kinds_of (lines (before ++ b)))) (lines behind)
  pub awaits : (date : ℕ) → d.date < date → Awaits end st.n st.decimals date
  pub reads : (xs : List ℕ) → check_of (before ++ b ++ behind) ≡ accepted xs → Read (before ++ b ++ behind) st.days d

-- so stands a block that was accepted on its own, as a day of the date, the n and the times that its check answered, in the unit of the 200 before it
pub record StandsAlone (before b behind : List ℕ) (st : Due) (t n u l : ℕ) : Type 0 where
  pub day : Day
  pub stands : Stands before b behind st day
  pub date : day.date ≡ t
  pub intervals : day.n ≡ n
  pub update : day.update ≡ u
  pub load : day.load ≡ l
  pub unit : day.unit ≡ unit_before before
