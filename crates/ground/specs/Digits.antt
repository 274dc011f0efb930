-- Decimal digits, the first the highest: the number that digits write, and the digits of a number.
use Rattle.std.specs.Prelude.{ℕ, zero, suc, ◌+◌, ◌-◌, ◌*◌, ◌/◌, ◌%◌, Bool, cond, ◌&&◌, List, [], ◌∷◌, ◌++◌, leb, ltb}

-- '0' to '9'
unfoldable pub is_digit : ℕ → Bool
is_digit b = leb 48 b && leb b 57

-- the number that digits write: at each digit ten times what came before it, and the digit
abbrev pub decimal_from : ℕ → List ℕ → ℕ
decimal_from v [] = v
decimal_from v (b ∷ s) = decimal_from (v * 10 + (b - 48)) s

abbrev pub decimal : List ℕ → ℕ
decimal s = decimal_from 0 s

-- the last k digits of n, with zeros in front where n has fewer
unfoldable pub padded : ℕ → ℕ → List ℕ
padded zero n = []
padded (suc k) n = padded k (n / 10) ++ (48 + n % 10) ∷ []

-- how many digits n has, 1 at least and at most f + 1
unfoldable pub width_from : ℕ → ℕ → ℕ
width_from zero n = 1
width_from (suc f) n = cond (ltb n 10) 1 (suc (width_from f (n / 10)))

-- how many digits a number of 64 bits has
unfoldable pub width : ℕ → ℕ
width n = width_from 19 n

-- a number without leading zeros
unfoldable pub dec : ℕ → List ℕ
dec n = padded (width n) n
