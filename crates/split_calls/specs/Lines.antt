-- The lines in which the probe answers the calls that split a total.
use Rattle.std.specs.Prelude.{ℕ, List, ◌∷◌, ◌++◌, get_or}
use Rattle.ground.specs.Digits.{dec}
use Rattle.format.specs.Answers.{Answer}
use Rattle.page.specs.Texts.{texts}
use Rattle.answer_lines.specs.Lines.{line_of}
use Rattle.calls.specs.Kept.{kept, wide_mark, ending}
use Rattle.calls.specs.Lines.{lent}
use Rattle.entries.specs.Left.{Left}
use Rattle.kept_bytes.specs.Kept.{kept_from}

-- the parts that are set: 128 behind an accepted answer, none behind a refusal
abbrev pub set_in : Answer → ℕ
set_in a = kept_from a 128

-- output i's part, behind a space
unfoldable pub part_text : List ℕ → ℕ → List ℕ
part_text ps i = 32 ∷ dec (get_or ps i 0)

-- the answer, the parts that are set, and whether the others are kept
unfoldable pub split_text : Left → List ℕ
split_text l =
    line_of l.answer
    ++ texts (part_text l.memory) (set_in l.answer)
    ++ ending (kept wide_mark (set_in l.answer) l.memory)

-- p parts of 300 that hold their mark
abbrev pub lent_parts : ℕ → List ℕ
lent_parts p = lent p wide_mark
