-- What a field has to be by the table of units: the units that are known, and how many decimals a value in one of them has.
use Rattle.std.specs.Prelude.{ℕ, cond, List, [], ◌++◌, length, eqb}
use Rattle.ground.specs.Digits.{dec}
use Rattle.ground.specs.Text.{bytes}
use Rattle.format.specs.Numbers.{behind}
use Rattle.format.specs.Units.{units, unit_name, decimals_of}
use Rattle.page.specs.Texts.{texts}
use Rattle.phrase.specs.Phrases.{counted_text}

-- what parts a unit's name from the one before it
unfoldable pub comma_before : ℕ → List ℕ
comma_before unit = cond (eqb unit 0) [] (bytes ", ")

unfoldable pub listed : ℕ → List ℕ
listed unit = comma_before unit ++ unit_name unit

-- the names of all units, in the order of the table
unfoldable pub known_units : List ℕ
known_units = bytes "units that are known: " ++ texts listed (length units) ++ bytes " (in letters of either case)"

-- how many decimals a value in the unit has at most
unfoldable pub at_most : ℕ → List ℕ
at_most unit = bytes "a value in " ++ unit_name unit ++ bytes " has at most " ++ counted_text (decimals_of unit) (bytes "decimal")

-- and how many this one has
unfoldable pub too_many : ℕ → List ℕ → List ℕ
too_many unit value = at_most unit ++ bytes ", and this one has " ++ dec (length (behind value))
