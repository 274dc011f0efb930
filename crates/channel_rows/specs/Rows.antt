-- What a channel adds up to, as a line of the table.
use Rattle.std.specs.Prelude.{ℕ, suc, ◌+◌, cond, List, [], drop, eqb, Option, Some, None}
use Rattle.ground.specs.Lists.{part}
use Rattle.format.specs.Cut.{Lines, line, rest, lines, fields, field}
use Rattle.format.specs.Records.{kind_in}
use Rattle.channel.specs.declared.Channel.{Channel}
use Rattle.channel.specs.declared.Channel.TheVariants.{Days, Quantity}
use Rattle.phrase.specs.Phrases.{line_text}
use Rattle.tables.specs.Totals.{row_text}

-- how many 300s stand before the next 200
unfoldable pub days_ahead : Lines → ℕ
days_ahead (rest t) = 0
days_ahead (line r ls) = cond (eqb (kind_in (fields r)) 200) 0 (cond (eqb (kind_in (fields r)) 300) (suc (days_ahead ls)) (days_ahead ls))

-- channel k by its record, in which the unit is the field of a number from 0: NMI, suffix, unit, days and total
unfoldable pub channel_row : ℕ → List (List ℕ) → ℕ → ℕ → ℕ → List ℕ
channel_row k fs unit days total = line_text (row_text k (field 1 fs) (field 4 fs) (field unit fs) days total 0)

-- channel k, where it stands in the file
abbrev pub channel_text : List ℕ → ℕ → Option Channel → ℕ → List ℕ
channel_text file k (Some (Days a e)) total = channel_row k (fields (part file a e)) 7 (days_ahead (lines (drop (e + 2) file))) total
channel_text file k (Some (Quantity a e)) total = channel_row k (fields (part file a e)) 19 0 total
channel_text file k None total = []
