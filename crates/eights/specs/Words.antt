-- Bytes as one number, for the contract of an inner function.
use Rattle.std.specs.Prelude.{ℕ, ◌+◌, ◌*◌, ◌^◌, List, [], ◌∷◌}

-- the number that bytes write, the first of them lowest
unfoldable pub number : List ℕ → ℕ
number [] = 0
number (b ∷ s) = number s * 2 ^ 8 + b
