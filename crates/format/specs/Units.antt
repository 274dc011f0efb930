-- 02, 8: "Appendix B of source document 000 gives the allowed units and the decimals of each." The table is the one that the tickets of 02 decide on, in their
-- order: a unit's number is its place there, from 0. 000 of Appendix B: "The allowed values for UOM are not case sensitive."
use Rattle.std.specs.Prelude.{ℕ, ◌+◌, List, [], ◌∷◌, map, Bool, cond, length, get_or, ltb, Option, Some, None}
use Prim.Native.String.{String}
use Rattle.ground.specs.Lists.{same}
use Rattle.ground.specs.Text.{bytes}
use Rattle.format.specs.Bytes.{capital}
use Rattle.format.specs.Numbers.{decimals}

-- a unit's name, and how many decimals a value in it may have
pub record UnitRow : Type 0 where
  pub name : List ℕ
  pub digits : ℕ

abbrev pub unit_row : String → ℕ → UnitRow
unit_row s d = record { name = bytes s; digits = d }

unfoldable pub units : List UnitRow
units =
    unit_row "MWh" 6 ∷ unit_row "kWh" 4 ∷ unit_row "Wh" 1
    ∷ unit_row "MVArh" 6 ∷ unit_row "kVArh" 4 ∷ unit_row "VArh" 1
    ∷ unit_row "MVAr" 6 ∷ unit_row "kVAr" 4 ∷ unit_row "VAr" 1
    ∷ unit_row "MW" 6 ∷ unit_row "kW" 4 ∷ unit_row "W" 1
    ∷ unit_row "MVAh" 6 ∷ unit_row "kVAh" 4 ∷ unit_row "VAh" 1
    ∷ unit_row "MVA" 6 ∷ unit_row "kVA" 4 ∷ unit_row "VA" 1
    ∷ unit_row "kV" 4 ∷ unit_row "V" 1
    ∷ unit_row "kA" 4 ∷ unit_row "A" 1
    ∷ unit_row "pf" 2 ∷ []

-- the same letters, whatever their case
unfoldable pub same_letters : List ℕ → List ℕ → Bool
same_letters s t = same (map capital s) (map capital t)

-- the number of the first of these units with that name, where the first of them has the number i
unfoldable pub unit_from : ℕ → List UnitRow → List ℕ → Option ℕ
unit_from i [] s = None
unit_from i (u ∷ us) s = cond (same_letters u.name s) (Some i) (unit_from (i + 1) us s)

-- the number of the unit that a field names
unfoldable pub unit_of : List ℕ → Option ℕ
unit_of s = unit_from 0 units s

-- a unit has that number
unfoldable pub is_unit : ℕ → Bool
is_unit u = ltb u (length units)

-- the unit of a number; one that is none has no name and no decimals
abbrev pub no_unit : UnitRow
no_unit = record { name = []; digits = 0 }

unfoldable pub unit_at : ℕ → UnitRow
unit_at u = get_or units u no_unit

unfoldable pub unit_name : ℕ → List ℕ
unit_name u = (unit_at u).name

unfoldable pub decimals_of : ℕ → ℕ
decimals_of u = (unit_at u).digits

-- "01's limits stay as outer ones, and stand alone for the quantity of a 250 whose unit isn't known": the decimals of a value whose unit is so named
abbrev pub decimals_for : Option ℕ → ℕ
decimals_for (Some u) = decimals_of u
decimals_for None = decimals

unfoldable pub decimals_named : List ℕ → ℕ
decimals_named s = decimals_for (unit_of s)
