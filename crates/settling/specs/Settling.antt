-- What moving blocks down asks of a memory, and what it leaves.
use Rattle.std.specs.Prelude.{ℕ, ◌+◌, ◌≤◌, ◌≡◌, List, [], length}
use Rattle.store.specs.Ranges.{starts, sizes}
use Rattle.store.specs.Moves.{live, moved_down}
use Rattle.store.specs.declared.Header.{Header}
use Rattle.ranges.specs.Laid.{Laid}

-- the blocks of the map's slots lie apart in the room, and the room in the memory
pub record Settles (m : List ℕ) (h : Header) (map : ℕ) : Type 0 where
  pub laid : Laid (starts m h map) (sizes m h map) h.size
  pub room : h.room + h.size ≤ length m

-- they were moved down: how many bytes they have, and the memory
pub record Settled (old : List ℕ) (h : Header) (map r : ℕ) (new : List ℕ) : Type 0 where
  pub bytes : r ≡ live old h map
  pub memory : new ≡ moved_down old h map []
