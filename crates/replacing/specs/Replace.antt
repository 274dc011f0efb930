-- 02, 14: "Given an accepted file and a new day block for day d with the same date, check the block only. If it is accepted after its own 200 and the new
-- length is at most 1,048,576, the edited file is accepted. [..] bytes outside the block are the old ones; lent bytes past the new end stay. Order: the file's
-- refusal, 14, the block's refusal with its place in the block, another date (8 at the block's date field), 1, 15." And the tickets of 02: "a length above the
-- room's is 15 before all else".
use Rattle.std.specs.Prelude.{ℕ, List, [], ◌∷◌, cond, length, take, drop, ltb, eqb, Result, Ok, Err}
use Rattle.format.specs.Cut.{lines}
use Rattle.format.specs.Records.{date_in}
use Rattle.format.specs.Answers.{Answer, accepted, refused, refusal, refused_as}
use Rattle.format.specs.File.{most, check_of, block_check_of}
use Rattle.format.specs.Day.{DayRows, days_of, over}
use Rattle.passing.specs.Passes.{top_date}
use Rattle.moving.specs.Moving.{spliced}
use Rattle.whose.specs.Whose.{whose_is}
use Rattle.format.specs.declared.Refusal.{Refusal}

-- what a call answers, and the room that it leaves
pub record Left : Type 0 where
  pub answer : Answer
  pub room : List ℕ

abbrev pub left : Answer → List ℕ → Left
left a room = record { answer = a; room = room }

-- the file's new length
abbrev pub replaced_as : Result ℕ Refusal → Answer
replaced_as (Ok n) = accepted (n ∷ [])
replaced_as (Err x) = refused_as x

-- a refusal leaves every byte of the room
abbrev pub or_refused : Answer → List ℕ → Left → Left
or_refused (accepted xs) room l = l
or_refused (refused x p k i) room l = left (refused x p k i) room

-- the file with the block in the place of the day d's
abbrev pub edited_at : List ℕ → DayRows → List ℕ → List ℕ
edited_at file d block = spliced file (whose_is file d).start (whose_is file d).end block

-- the edited file into the room, if it isn't too long: "1 if the new length is over the limit, 15 if the room is shorter than the new length"
unfoldable pub put_of : List ℕ → List ℕ → Left
put_of file room =
    cond (ltb most (length file)) (left (refusal 1) room)
    (cond (ltb (length room) (length file)) (left (refusal 15) room)
    (left (accepted (length file ∷ [])) (over file room)))

-- "another date (8 at the block's date field)": the field behind the block's first four bytes
unfoldable pub same_date : DayRows → List ℕ → Answer
same_date d block = cond (eqb (top_date (lines block)) (date_in d.block.top.cells)) (accepted []) (refused 8 4 0 2)

-- of the file's days from the one that is asked for, the first: none is 14
abbrev pub replace_first : List ℕ → List DayRows → List ℕ → List ℕ → Left
replace_first file [] block room = left (refusal 14) room
replace_first file (d ∷ ds) block room =
    or_refused (block_check_of (whose_is file d).minutes (whose_is file d).unit block) room
    (or_refused (same_date d block) room (put_of (edited_at file d block) room))

-- the file is the first so many bytes of the room
unfoldable pub replace_in : List ℕ → ℕ → List ℕ → List ℕ → Left
replace_in file day block room = or_refused (check_of file) room (replace_first file (drop day (days_of file)) block room)

unfoldable pub replace_of : List ℕ → ℕ → ℕ → List ℕ → Left
replace_of room n day block = cond (ltb (length room) n) (left (refusal 15) room) (replace_in (take n room) day block room)
