-- What is said of a day that is split over the outputs on its channel.
use Rattle.std.specs.Prelude.{ℕ, ◌-◌, Bool, List, [], ◌∷◌, ◌++◌, length, get_or, eqb}
use Rattle.ground.specs.Digits.{dec}
use Rattle.ground.specs.Text.{bytes}
use Rattle.format.specs.Bytes.{capital}
use Rattle.format.specs.Block.{value_text}
use Rattle.phrase.specs.Phrases.{cell_text, right_text, point_text, beside}
use Rattle.listing.specs.Lines.{columns}
use Rattle.store_lines.specs.Lines.{key_text}
use Rattle.map_lines.specs.Tables.{output_text}

-- ---- the line above the table

-- 12.5 kWh
unfoldable pub amount_text : ℕ → List ℕ → List ℕ
amount_text total unit = value_text total ++ bytes " " ++ unit

unfoldable pub by_text : ℕ → List ℕ
by_text v = bytes ", split by version " ++ dec v ++ bytes " of the map"

-- NEM1234567 E1 on 2004-01-01: 12.5 kWh, split by version 2 of the map
unfoldable pub title_text : List ℕ → List ℕ → ℕ → ℕ → List ℕ → ℕ → List ℕ
title_text nmi suffix date total unit v = key_text nmi suffix date ++ bytes ": " ++ amount_text total unit ++ by_text v

-- ---- the table

abbrev pub headings : List ℕ
headings = bytes "output  NMI         suffix  share        part"

-- an output as the tables of a map have it, and its part
unfoldable pub part_text : ℕ → List ℕ → List ℕ → ℕ → ℕ → ℕ → List ℕ
part_text output nmi suffix share part at = beside at (output_text output nmi suffix share at) (point_text 45 part)

-- what the shares and the parts add up to
abbrev pub sum_text : ℕ → ℕ → ℕ → List ℕ
sum_text shares sum = columns (cell_text 3 (bytes "sum") ∷ right_text 33 shares ∷ point_text 45 sum ∷ [])

-- ---- units whose parts mean nothing

-- of the table of units those of energy, and no others, end in h: their values are amounts, and may be shared out
unfoldable pub is_energy : List ℕ → Bool
is_energy unit = eqb (capital (get_or unit (length unit - 1) 0)) 72

-- note: values in V are no amounts of energy, so splitting them means nothing
unfoldable pub note_text : List ℕ → List ℕ
note_text unit = bytes "note: values in " ++ unit ++ bytes " are no amounts of energy, so splitting them means nothing"
