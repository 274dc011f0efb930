-- Record k of a file, counted from 0: where it starts, what stands from there on, and the state before it.
use Rattle.std.specs.Prelude.{ℕ, zero, suc, ◌+◌, List, length}
use Rattle.format.specs.Cut.{Lines, line, rest, lines}
use Rattle.format.specs.Order.{Due, begun}
use Rattle.format.specs.File.{after}

-- behind the CR LFs of the k records before it; where there are fewer, the file's end
abbrev pub place_in : ℕ → Lines → ℕ
place_in zero ls = 0
place_in (suc k) (line r ls) = length r + (2 + place_in k ls)
place_in (suc k) (rest t) = length t

unfoldable pub place_of : ℕ → List ℕ → ℕ
place_of k file = place_in k (lines file)

-- what follows the first k records
abbrev pub past : ℕ → Lines → Lines
past zero ls = ls
past (suc k) (line r ls) = past k ls
past (suc k) (rest t) = rest t

-- the state after the first k records, where it was st before them
abbrev pub state_in : ℕ → Due → Lines → Due
state_in zero st ls = st
state_in (suc k) st (line r ls) = state_in k (after st r) ls
state_in (suc k) st (rest t) = st

unfoldable pub state_at : ℕ → List ℕ → Due
state_at k file = state_in k begun (lines file)
