-- The lines of the tables: headings, a row for an interval, for a read and for a day.
use Rattle.std.specs.Prelude.{ℕ, List, [], ◌∷◌, ◌++◌}
use Rattle.ground.specs.Text.{bytes}
use Rattle.format.specs.Block.{value_text, quality_text, reason_text}
use Rattle.phrase.specs.Phrases.{date_text}
use Rattle.cells.specs.Cells.{field_text, cell_text}
use Rattle.cells.specs.Moments.{start_text, end_text}
use Rattle.csv_rows.specs.Times.{seconds_text}

abbrev lf : List ℕ
lf = 10 ∷ []

abbrev pub heading : List ℕ
heading = bytes "nmi,suffix,unit,start,end,value,quality,reason,description" ++ lf

abbrev pub daily_heading : List ℕ
daily_heading = bytes "nmi,suffix,unit,date,sum" ++ lf

-- what each row of a channel starts with
unfoldable pub front_text : List ℕ → List ℕ → List ℕ → List ℕ
front_text nmi suffix unit = field_text nmi ++ field_text suffix ++ field_text unit

-- a row: its front, and behind that its other columns
unfoldable pub row_text : List ℕ → List ℕ → List ℕ → ℕ → List ℕ → List ℕ → List ℕ → List ℕ
row_text front start end value quality reason description =
    front ++ field_text start ++ field_text end ++ field_text (value_text value) ++ field_text quality ++ field_text reason ++ cell_text description ++ lf

-- the row of interval i from 0, of n in its day, where `today` and `after` are the texts of its day and of the day after, each up to the clock
unfoldable pub interval_text : List ℕ → List ℕ → List ℕ → ℕ → ℕ → ℕ → ℕ → ℕ → ℕ → List ℕ → List ℕ
interval_text front today after i n value flag method reason description =
    row_text front (start_text today after i n) (end_text today after i n) value (quality_text flag method) (reason_text reason) description

-- the row of a 250
unfoldable pub reading_text : List ℕ → ℕ → ℕ → ℕ → List ℕ → List ℕ → List ℕ → List ℕ
reading_text front from to value quality reason description = row_text front (seconds_text from) (seconds_text to) value quality reason description

-- the row of a day
unfoldable pub daily_text : List ℕ → ℕ → ℕ → List ℕ
daily_text front date sum = front ++ field_text (date_text date) ++ value_text sum ++ lf
