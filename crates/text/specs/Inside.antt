-- A part of a lent text that lies inside it: an empty one does, whatever its start.
use Rattle.std.specs.Prelude.{ℕ, ◌+◌, List, Bool, ◌||◌, length, leb, eqb}

-- the n bytes that start at s
unfoldable pub inside : List ℕ → ℕ → ℕ → Bool
inside text s n = eqb n 0 || leb (s + n) (length text)
