-- The line in which the probe answers a replacing, and how much of the room it answers behind it.
use Rattle.std.specs.Prelude.{ℕ, List, ◌++◌, drop}
use Rattle.ground.specs.Lists.{same}
use Rattle.format.specs.Answers.{Answer, accepted, refused}
use Rattle.replacing.specs.Replace.{Left, replace_of}
use Rattle.answer_lines.specs.Lines.{line_of}
use Rattle.calls.specs.Kept.{ending}
use Rattle.calls.specs.Lines.{bytes_in}

-- all n bytes of the room behind an accepted call, none behind a refusal
abbrev pub shown_in : Answer → ℕ → ℕ
shown_in (accepted xs) n = n
shown_in (refused x p k i) n = 0

-- the answer, and whether what the call leaves in the room is as it was behind the edited file's end; behind a refusal, from the room's start
unfoldable pub left_text : Left → List ℕ → List ℕ
left_text l room = line_of l.answer ++ ending (same (drop (bytes_in l.answer) l.room) (drop (bytes_in l.answer) room))

abbrev pub replace_text : List ℕ → ℕ → ℕ → List ℕ → List ℕ
replace_text room n k block = left_text (replace_of room n k block) room
