-- What the channels of a file add up to, as a table. A text that stands in a column goes by the place that its line has come to, which comes last.
use Rattle.std.specs.Prelude.{ℕ, List}
use Rattle.ground.specs.Text.{bytes}
use Rattle.phrase.specs.Phrases.{cell_text, right_text, point_text, beside}

abbrev pub headings : List ℕ
headings = bytes "channel  NMI         suffix  unit    days           total"

unfoldable pub names_text : List ℕ → List ℕ → List ℕ → ℕ → List ℕ
names_text nmi suffix unit at = beside at (beside at (cell_text 9 nmi at) (cell_text 21 suffix)) (cell_text 29 unit)

unfoldable pub sums_text : ℕ → ℕ → ℕ → List ℕ
sums_text days total at = beside at (right_text 40 days at) (point_text 56 total)

-- the line of channel k
unfoldable pub row_text : ℕ → List ℕ → List ℕ → List ℕ → ℕ → ℕ → ℕ → List ℕ
row_text k nmi suffix unit days total at = beside at (beside at (right_text 7 k at) (names_text nmi suffix unit)) (sums_text days total)
