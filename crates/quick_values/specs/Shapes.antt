-- The commonest shape of a value.
use Rattle.std.specs.Prelude.{ℕ, List, Bool, ◌&&◌, length, get_or, eqb}
use Rattle.ground.specs.Digits.{is_digit}

-- a digit, a point and three digits
unfoldable pub is_thousandths : List ℕ → Bool
is_thousandths s = eqb (length s) 5 && eqb (get_or s 1 0) 46 && is_digit (get_or s 0 0) && is_digit (get_or s 2 0) && is_digit (get_or s 3 0) && is_digit (get_or s 4 0)
