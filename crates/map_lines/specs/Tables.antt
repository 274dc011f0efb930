-- The lines of a tenant map's tables: a version's outputs, its channels, and all versions.
use Rattle.std.specs.Prelude.{ℕ, cond, List, [], ◌∷◌, ◌++◌, eqb}
use Rattle.ground.specs.Text.{bytes}
use Rattle.phrase.specs.Phrases.{date_text, cell_text, right_text}
use Rattle.listing.specs.Lines.{columns}
use Rattle.map_lines.specs.Lines.{version_text}

-- the line of an output in use, its number from 0
abbrev pub output_text : ℕ → List ℕ → List ℕ → ℕ → ℕ → List ℕ
output_text output nmi suffix share = columns (right_text 6 output ∷ cell_text 8 nmi ∷ cell_text 20 suffix ∷ right_text 33 share ∷ [])

-- the line of a channel: its outputs, and what their shares add up to
abbrev pub channel_text : List ℕ → List ℕ → ℕ → ℕ → ℕ → List ℕ
channel_text nmi suffix outputs shares = columns (cell_text 0 nmi ∷ cell_text 12 suffix ∷ right_text 27 outputs ∷ right_text 35 shares ∷ [])

abbrev pub version_columns : ℕ → ℕ → ℕ → ℕ → ℕ → List ℕ
version_columns v first outputs channels = columns (right_text 7 v ∷ cell_text 9 (date_text first) ∷ right_text 28 outputs ∷ right_text 38 channels ∷ [])

-- the number of an earlier version with the same entries, 0 where there is none
unfoldable pub like_text : ℕ → List ℕ
like_text k = cond (eqb k 0) [] (bytes "  as " ++ version_text k)

-- the line of a version
unfoldable pub row_text : ℕ → ℕ → ℕ → ℕ → ℕ → ℕ → List ℕ
row_text v first outputs channels like at = version_columns v first outputs channels at ++ like_text like
