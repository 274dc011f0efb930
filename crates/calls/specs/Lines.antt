-- The lines in which the probe answers.
use Rattle.std.specs.Prelude.{ℕ, List, [], ◌∷◌, ◌++◌, length, take, replicate}
use Rattle.format.specs.Answers.{Answer, accepted, refused}
use Rattle.format.specs.Day.{Five, five, Outcome}
use Rattle.format.specs.Block.{Given, write_of, room_of}
use Rattle.page.specs.Texts.{texts}
use Rattle.answer_lines.specs.Lines.{line_of, interval_in}
use Rattle.calls.specs.Kept.{kept, wide_mark, half_mark, byte_mark, kept_all, ending}

-- an answer's line where nothing that could change was lent
unfoldable pub answer_line : Answer → List ℕ
answer_line a = line_of a ++ 10 ∷ []

-- the intervals of a day that was read: the second of its answer's values
abbrev pub intervals_in : Answer → ℕ
intervals_in (accepted (t ∷ n ∷ xs)) = n
intervals_in (accepted (t ∷ [])) = 0
intervals_in (accepted []) = 0
intervals_in (refused x p k i) = 0

-- the line of a reading: the answer, its intervals, and whether the lists are kept behind these
unfoldable pub day_text : Outcome → List ℕ
day_text o =
    line_of o.answer
    ++ texts (interval_in o.values o.marks.flags o.marks.methods o.marks.reasons o.marks.starts o.marks.lengths) (intervals_in o.answer)
    ++ ending (kept_all (intervals_in o.answer) o.values o.marks)

-- w places of 300 that hold a mark
unfoldable pub lent : ℕ → ℕ → List ℕ
lent w mark = take w (replicate 300 mark)

abbrev pub lent_values : ℕ → List ℕ
lent_values w = lent w wide_mark

abbrev pub lent_marks : ℕ → Five
lent_marks w = five (lent w byte_mark) (lent w byte_mark) (lent w half_mark) (lent w wide_mark) (lent w wide_mark)

-- the bytes of a block that was written: the first of its answer's values
abbrev pub bytes_in : Answer → ℕ
bytes_in (accepted (b ∷ xs)) = b
bytes_in (accepted []) = 0
bytes_in (refused x p k i) = 0

-- the line of a writing: the answer, and whether the room is kept behind the block
unfoldable pub block_text : Given → List ℕ → List ℕ
block_text g room = line_of (write_of g (length room)) ++ ending (kept 0 (bytes_in (write_of g (length room))) (room_of g room))
