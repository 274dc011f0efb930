-- What the tests of an entry that adding takes and of one that it keeps have in common.
use Rattle.std.specs.Prelude.{ℕ, List, Bool, ◌&&◌, ◌||◌, leb, eqb}
use Rattle.format.specs.Bytes.{capital, is_alnum}
use Rattle.tenants.specs.Outputs.{is_empty}

-- an entry is taken whose key is known to be good or not
unfoldable pub taken_by : Bool → List ℕ → ℕ → Bool
taken_by good key share = leb share 1000 && (good || is_empty key && eqb share 0)

-- a letter or digit, and no small letter
unfoldable pub kept_byte : ℕ → Bool
kept_byte b = is_alnum b && eqb (capital b) b
