-- The table of days. A text that stands in a column goes by the place that its line has come to.
use Rattle.std.specs.Prelude.{ℕ, List, [], ◌∷◌, ◌++◌}
use Rattle.ground.specs.Text.{bytes}
use Rattle.phrase.specs.Phrases.{date_text, cell_text, right_text, point_text, beside}
use Rattle.measures.specs.declared.counts.Counts.{Counts}

-- the columns of a line, each by the place that the line has come to, from place `at` on
unfoldable pub columns : List (ℕ → List ℕ) → ℕ → List ℕ
columns [] at = []
columns (f ∷ fs) at = beside at (f at) (columns fs)

abbrev pub headings : List ℕ
headings = bytes "   day  channel  NMI         suffix  date        minutes        sum        unit  actual estimated final substituted null"

abbrev pub count_columns : Counts → List (ℕ → List ℕ)
count_columns c =
    right_text 87 c.actual ∷ right_text 97 c.estimated ∷ right_text 103 c.final_substituted ∷ right_text 115 c.substituted ∷ right_text 120 c.null ∷ []

-- the line of a day, its number and its channel's from 0
unfoldable pub row_text : ℕ → ℕ → List ℕ → List ℕ → ℕ → ℕ → ℕ → List ℕ → Counts → ℕ → List ℕ
row_text day channel nmi suffix date minutes sum unit counts =
    columns
    (right_text 6 day ∷ right_text 15 channel ∷ cell_text 17 nmi ∷ cell_text 29 suffix ∷ cell_text 37 (date_text date) ∷ right_text 56 minutes ∷ point_text 67 sum
    ∷ cell_text 75 unit ∷ count_columns counts)
