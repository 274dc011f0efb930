-- The lines in which the probe answers the calls of a store.
use Rattle.std.specs.Prelude.{ℕ, ◌+◌, List, [], ◌∷◌, ◌++◌, drop}
use Rattle.ground.specs.Lists.{same}
use Rattle.ground.specs.Text.{bytes}
use Rattle.format.specs.Answers.{Answer, accepted, refused}
use Rattle.answer_lines.specs.Lines.{line_of}
use Rattle.calls.specs.Kept.{ending}
use Rattle.entries.specs.Left.{Left}
use Rattle.kept_bytes.specs.Kept.{kept_from, used_end}

-- the answer, and whether memory is kept
unfoldable pub left_text : Left → ℕ → List ℕ → List ℕ
left_text l place m = line_of l.answer ++ ending (same (drop (kept_from l.answer place) l.memory) (drop (kept_from l.answer place) m))

-- a making writes the header, a put and a delete nothing behind the bytes that are used then
abbrev pub make_text : Left → List ℕ → List ℕ
make_text l m = left_text l 32 m

abbrev pub change_text : Left → List ℕ → List ℕ
change_text l m = left_text l (used_end l.memory) m

-- a slot
unfoldable pub slot_text : Answer → List ℕ
slot_text (accepted []) = bytes "free" ++ 10 ∷ []
slot_text (accepted (x ∷ xs)) = line_of (accepted (x ∷ xs)) ++ 10 ∷ []
slot_text (refused x p k i) = line_of (refused x p k i) ++ 10 ∷ []
