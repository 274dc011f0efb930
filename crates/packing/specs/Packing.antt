-- Blocks in a room, packed: the room's bytes that lie in no block are left out, all others keep their order. The blocks are ranges, and one of no bytes is none.
use Rattle.std.specs.Prelude.{ℕ, List, length}
use Rattle.format.specs.Day.{over}
use Rattle.store.specs.Moves.{covered, keep, kept, placed}

-- what packing leaves: how many bytes are used, the room, the places
pub record Packed : Type 0 where
  pub bytes : ℕ
  pub room : List ℕ
  pub places : List ℕ

abbrev pub packed : ℕ → List ℕ → List ℕ → Packed
packed r room os = record { bytes = r; room = room; places = os }

-- a block's new place is the number of bytes in blocks before it
unfoldable pub pack_of : List ℕ → List ℕ → List ℕ → Packed
pack_of room os ns =
    packed (length (keep (covered os ns) 0 room)) (over (keep (covered os ns) 0 room) room) (placed (λ (o : ℕ). length (kept os ns room o)) os ns)
