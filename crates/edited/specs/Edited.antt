-- What a replacing that is accepted leaves of the file. 02, 14: "the edited file is accepted. Every other day reads as before but for shifted description
-- places, the channel's total equals a fresh count, and bytes outside the block are the old ones; lent bytes past the new end stay." The tickets of 02 say
-- each more closely, below.
use Rattle.std.specs.Prelude.{ℕ, ◌+◌, ◌-◌, ◌≤◌, ◌<◌, ◌≡◌, ◌≢◌, cond, List, [], ◌∷◌, ◌++◌, map, length, take, drop, leb}
use Rattle.ground.specs.Lists.{sum}
use Rattle.format.specs.Cut.{lines}
use Rattle.format.specs.Answers.{Answer, accepted, refused}
use Rattle.format.specs.Order.{Due}
use Rattle.format.specs.File.{most, check_of, block_check_of, IsAccepted}
use Rattle.format.specs.Day.{DayRows, days_of, Day, Five, five, Outcome, outcome, read_of}
use Rattle.format.specs.Total.{total_of}
use Rattle.passing.specs.Passes.{Leads, Accepted, top_date}
use Rattle.theorems.specs.Days.{meant}
use Rattle.shortest.specs.Blocks.{Reads, Read}
use Rattle.whose.specs.Whose.{Whose, whose_is, whose_as, find_of}
use Rattle.replacing.specs.Replace.{left, edited_at, replace_of}

-- the file is the room's first n bytes; a replacing of its day by the block is accepted, and the edited file is the first m bytes of the room that is left
abbrev pub Replaces : List ℕ → ℕ → ℕ → List ℕ → ℕ → List ℕ → Type 0
Replaces room n day block m room' = replace_of room n day block ≡ left (accepted (m ∷ [])) room'

-- ---- when it is accepted

-- the file is accepted and has a day of this number; behind what stands before that day's block the check takes these bytes as a block, and they have its date;
-- the edited file is no longer than a file may be, and than the room
pub record Replaceable (file : List ℕ) (day : ℕ) (block room : List ℕ) : Type 0 where
  pub was : IsAccepted file
  pub rows : DayRows
  pub others : List DayRows
  pub at : drop day (days_of file) ≡ rows ∷ others
  pub st : Due
  pub leads : Leads (take (whose_is file rows).start file) st
  pub taken : Accepted st block
  pub date : top_date (lines block) ≡ (meant rows).date
  pub short : length (edited_at file rows block) ≤ most
  pub fits : length (edited_at file rows block) ≤ length room

-- ---- description places

-- "shifted by the difference where they stand behind": a place of the file, where the old block ended at e and the new one ends at b
abbrev pub shifted : ℕ → ℕ → ℕ → ℕ
shifted e b p = cond (leb e p) (p - e + b) p

-- how many places of each list a reading fills: n, the second number of its answer
abbrev pub filled : Answer → ℕ
filled (accepted []) = 0
filled (accepted (t ∷ [])) = 0
filled (accepted (t ∷ n ∷ xs)) = n
filled (refused x p k i) = 0

-- what a reading answers and leaves, but with f of each start that it filled
abbrev pub with_starts : (ℕ → ℕ) → Outcome → Outcome
with_starts f o =
    outcome o.answer o.values
    (five o.marks.flags o.marks.methods o.marks.reasons
    (map f (take (filled o.answer) o.marks.starts) ++ drop (filled o.answer) o.marks.starts)
    o.marks.lengths)

-- ---- the edited file

pub record Edited (file : List ℕ) (day : ℕ) (block file' : List ℕ) : Type 0 where
  -- the day's records, and whose day it is
  pub rows : DayRows
  pub others : List DayRows
  pub at : drop day (days_of file) ≡ rows ∷ others
  pub whose : Whose
  pub found : find_of file day ≡ whose_as whose
  -- "The edited file is accepted with the same version, channels and days"
  pub was : IsAccepted file
  pub check : check_of file' ≡ check_of file
  -- "bytes outside the block are the old ones"
  pub before : take whose.start file' ≡ take whose.start file
  pub inside : take (length block) (drop whose.start file') ≡ block
  pub behind : drop (whose.start + length block) file' ≡ drop whose.end file
  -- "day `day` is the block's day": what the block is read as in its place, under the day's own 200, of what its check answers
  pub new : Day
  pub reads : Reads whose.start rows.channel block new
  pub read : Read file' day new
  pub records : ℕ
  pub says : block_check_of whose.minutes whose.unit block ≡ accepted (new.date ∷ new.n ∷ new.update ∷ new.load ∷ records ∷ [])
  pub date : new.date ≡ (meant rows).date
  pub unit : new.unit ≡ whose.unit
  -- "every other day is the *same* as before", and its description places "shifted by the difference where they stand behind (an empty description keeps
  -- start 0)", as `shifted` does: no block ends at 0
  pub same : map meant (days_of file') ≡ take day (map meant (days_of file)) ++ (new ∷ drop (day + 1) (map meant (days_of file)))
  pub earlier : (k : ℕ) → k < day → (vs : List ℕ) (ms : Five) → read_of file' k vs ms ≡ read_of file k vs ms
  pub later : (k : ℕ) → day < k → (vs : List ℕ) (ms : Five)
      → read_of file' k vs ms ≡ with_starts (shifted whose.end (whose.start + length block)) (read_of file k vs ms)
  -- "the channel's total is the old one less the old day's sum plus the new day's, which is a fresh count; other channels' totals stay"
  pub old-total : ℕ
  pub was-total : total_of file whose.channel ≡ accepted (old-total ∷ [])
  pub new-total : ℕ
  pub total : total_of file' whose.channel ≡ accepted (new-total ∷ [])
  pub moved : new-total + sum (meant rows).values ≡ old-total + sum new.values
  pub totals : (j : ℕ) → j ≢ whose.channel → total_of file' j ≡ total_of file j
