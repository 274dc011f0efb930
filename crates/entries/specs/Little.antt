-- Numbers in lent memory, "little-endian": the lowest byte first.
use Rattle.std.specs.Prelude.{ℕ, zero, suc, ◌+◌, ◌*◌, ◌/◌, ◌%◌, List, [], ◌∷◌, take, drop}

-- k bytes of m from place a on
abbrev pub piece : List ℕ → ℕ → ℕ → List ℕ
piece m a k = take k (drop a m)

-- the number that bytes hold
unfoldable pub number : List ℕ → ℕ
number [] = 0
number (b ∷ s) = b + 256 * number s

-- the number in the k bytes of m from place a on (bytes that m lacks count as 0)
abbrev pub number_at : List ℕ → ℕ → ℕ → ℕ
number_at m a k = number (piece m a k)

-- a number in k bytes
unfoldable pub in_bytes : ℕ → ℕ → List ℕ
in_bytes zero n = []
in_bytes (suc k) n = n % 256 ∷ in_bytes k (n / 256)
