-- 02, 2: "The store opens with a header of counts and offsets, little-endian: slot count (4 bytes, 1 to 64), days held (4), a used map of one bit for each slot
-- (8), offset of the slot list (4), offset of the block room (4), its length (4), bytes used from its start (4)."
use Rattle.std.specs.Prelude.{ℕ, List, ◌++◌}
use Rattle.entries.specs.Little.{number_at, in_bytes}
use Rattle.store.specs.Used.{held}
use Rattle.store.specs.declared.Header.{Header}

unfoldable pub header_of : List ℕ → Header
header_of m =
    record {
      slots = number_at m 0 4;
      days = number_at m 4 4;
      map = number_at m 8 8;
      list = number_at m 16 4;
      room = number_at m 20 4;
      size = number_at m 24 4;
      used = number_at m 28 4;
    }

unfoldable pub header_bytes : Header → List ℕ
header_bytes h =
    in_bytes 4 h.slots ++ in_bytes 4 h.days ++ in_bytes 8 h.map ++ in_bytes 4 h.list ++ in_bytes 4 h.room ++ in_bytes 4 h.size ++ in_bytes 4 h.used

-- the header of the same store with another map, and so many bytes used
unfoldable pub header_with : Header → ℕ → ℕ → Header
header_with h map end = record { slots = h.slots; days = held map; map = map; list = h.list; room = h.room; size = h.size; used = end }
