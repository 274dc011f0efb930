-- The table of units as the code keeps it.
use Rattle.std.specs.Prelude.{ℕ, List, [], ◌∷◌, ◌++◌, length, take, replicate}
use Rattle.format.specs.Units.{UnitRow, units}

-- a row of seven bytes: the name, filled up to five with zeros, its length, and the decimals
unfoldable pub row_bytes : UnitRow → List ℕ
row_bytes r = take 5 (r.name ++ replicate 5 0) ++ (length r.name ∷ r.digits ∷ [])

unfoldable pub bytes_of : List UnitRow → List ℕ
bytes_of [] = []
bytes_of (r ∷ rs) = row_bytes r ++ bytes_of rs

-- made from the one table that there is
unfoldable pub table : List ℕ
table = bytes_of units
