-- Sums of values from a place of the file on, for the contracts of the inner functions.
use Rattle.std.specs.Prelude.{ℕ, ◌≡◌, List, [], ◌∷◌, drop}
use Rattle.ground.specs.Lists.{sum, part}
use Rattle.format.specs.Cut.{lines, fields}
use Rattle.format.specs.Records.{values_in}
use Rattle.format.specs.Day.{DayRows}
use Rattle.format.specs.Total.{sum_from}
use Rattle.lines.specs.Places.{Rest}
use Rattle.day.specs.Places.{values_from}

-- the values of m fields from place x on come to v, and the field behind them starts at y
pub record Adds (file : List ℕ) (x e m v y : ℕ) : Type 0 where
  pub is : v ≡ sum (values_from m 0 (fields (part file x e)))
  pub rest : Rest file (fields (part file x e)) x m y e

-- the values of the days from place p on, up to the next channel
abbrev pub sum_at : List ℕ → ℕ → ℕ → ℕ
sum_at file p n = sum_from n (lines (drop p file))

-- the values of the first of these days, 0 where there is none
abbrev pub sum_first : List DayRows → ℕ
sum_first [] = 0
sum_first (d ∷ ds) = sum (values_in d.block.n d.block.top.cells)
