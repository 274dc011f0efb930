-- What the theorems say of the block that is written: "Reads back", "Shortest", "Refuses only".
use Rattle.std.specs.Prelude.{ℕ, ◌+◌, ◌*◌, ◌≤◌, ◌<◌, ◌≡◌, Bool, true, false, List, [], ◌∷◌, ◌++◌, length}
use Rattle.ground.specs.Lists.{all, from}
use Rattle.format.specs.Numbers.{is_length}
use Rattle.format.specs.Units.{decimals_of}
use Rattle.format.specs.Cut.{lines}
use Rattle.format.specs.Records.{unit_in, intervals_in}
use Rattle.format.specs.Order.{Due}
use Rattle.format.specs.Answers.{accepted}
use Rattle.format.specs.File.{most, check_of}
use Rattle.format.specs.Day.{Row, Day}
use Rattle.format.specs.Block.{Given, intervals_given, day_given, is_inside, fit_given, block_of, records_of, enough}
use Rattle.passing.specs.Passes.{kinds_of, Accepted, Awaits}
use Rattle.shortest.specs.Blocks.{Reads, Says, Read}

-- each description lies inside the lent text
abbrev pub inside : Given → Bool
inside g = all (is_inside g) (from (λ i. i) 0 (intervals_given g))

-- nothing is wrong with what was handed in
pub record Writable (g : Given) : Type 0 where
  pub length-known : is_length g.head.length ≡ true
  pub lists-long : enough g ≡ true
  pub fit : fit_given g ≡ true

-- a block of the interval length, the unit and the date that were handed in may stand where the state is st
abbrev pub AwaitsGiven : Given → Due → Type 0
AwaitsGiven g st = Awaits st (intervals_given g) (decimals_of g.head.unit) g.head.date

-- the block that is written for the day d is accepted where the state is st, and the day that is read from it, at any place under any 200 of that n and the day's
-- unit, is the same
pub record ReadsBack (d : Day) (st : Due) : Type 0 where
  pub accepted : Accepted st (block_of d)
  pub same : (p : ℕ) (c : Row) → intervals_in c.cells ≡ st.n → unit_in c.cells ≡ d.unit → Reads p c (block_of d) d

-- the block that is written for the day d has no more records than the bytes b, and no more bytes
pub record NoLonger (d : Day) (b : List ℕ) : Type 0 where
  pub records : records_of d ≤ length (kinds_of (lines b))
  pub bytes : length (block_of d) ≤ length b

-- the most bytes of a block that is written for a day of n intervals: 48 for its 300 without the values, 15 for each value with its comma, and 262 for each 400;
-- 79,824 for 288 intervals
abbrev pub most_bytes : ℕ → ℕ
most_bytes n = 48 + 15 * n + 262 * n

-- a file has in it the block that is written for the day d, is not too long, is accepted as NEM12 with one channel and one day, and a reading of its day 0 gives
-- d back
pub record AcceptedWith (d : Day) : Type 0 where
  pub file : List ℕ
  pub before : List ℕ
  pub after : List ℕ
  pub bytes : file ≡ before ++ block_of d ++ after
  pub short : length file ≤ most
  pub check : check_of file ≡ accepted (12 ∷ 1 ∷ 1 ∷ [])
  pub reads : Read file 0 d

-- why a day is refused with the number x
pub data Because (g : Given) (room x : ℕ) : Type 0 where
  length-unknown : x ≡ 16 → is_length g.head.length ≡ false → Because g room x
  list-short : x ≡ 15 → enough g ≡ false → Because g room x
  outside : x ≡ 16 → inside g ≡ false → Because g room x
  -- no block says this day
  unsayable : x ≡ 16 → ((b : List ℕ) → Says b (day_given g) → ⊥) → Because g room x
  -- every block that says this day is longer than the room
  no_room : x ≡ 15 → ((b : List ℕ) → Says b (day_given g) → room < length b) → Because g room x
