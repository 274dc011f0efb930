-- What the walker hands out at a place of the file: the first of the lines from there on, as places of the file.
use Rattle.std.specs.Prelude.{Option, Some, None}
use Rattle.std.specs.Prelude.{ℕ, ◌+◌, ◌-◌, List, length, take, drop}
use Rattle.ground.specs.Lists.{span_of}
use Rattle.format.specs.Bytes.{plain}
use Rattle.format.specs.Cut.{Lines, line, rest, lines, fields}
use Rattle.lines.specs.declared.Found.{Found}

-- the record r at p: its end, its first byte that is not plain, and its commas before that byte
abbrev pub found_of : ℕ → List ℕ → Found
found_of p r = record { end = p + length r; bad = p + span_of plain r; commas = length (fields (take (span_of plain r) r)) - 1 }

-- the first of the lines, which starts at p
abbrev pub first_of : ℕ → Lines → Option (ℕ × Found)
first_of p (line r ls) = Some (p, (found_of p r))
first_of p (rest t) = None

unfoldable pub record_at : List ℕ → ℕ → Option (ℕ × Found)
record_at file at = first_of at (lines (drop at file))

-- the place behind a record that was handed out at p: behind its CR LF; p itself, where there is none
abbrev pub behind_record : ℕ → Option (ℕ × Found) → ℕ
behind_record p (Some (s, f)) = f.end + 2
behind_record p None = p
