-- The tickets of 02: "Entry of 26 bytes (a store's slot, an index's entry), numbers little-endian: NMI 10, suffix 2, date 4, interval length in minutes 1, unit
-- number 1, offset of the block 4, length of the block 4."
use Rattle.std.specs.Prelude.{ℕ, ◌+◌, List, ◌++◌}
use Rattle.entries.specs.Little.{piece, number_at, in_bytes}
use Rattle.entries.specs.Keys.{Key, key}
use Rattle.entries.specs.declared.Entry.{Entry}

-- the key of the entry at place a
unfoldable pub key_at : List ℕ → ℕ → Key
key_at m a = key (piece m a 10) (piece m (a + 10) 2) (number_at m (a + 12) 4)

-- what it holds beside its key
unfoldable pub entry_at : List ℕ → ℕ → Entry
entry_at m a =
    record {
      minutes = number_at m (a + 16) 1;
      unit = number_at m (a + 17) 1;
      start = number_at m (a + 18) 4;
      size = number_at m (a + 22) 4;
    }

-- the bytes of an entry of that key
unfoldable pub entry_bytes : Key → Entry → List ℕ
entry_bytes k e =
    k.nmi ++ k.suffix ++ in_bytes 4 k.date ++ in_bytes 1 e.minutes ++ in_bytes 1 e.unit ++ in_bytes 4 e.start ++ in_bytes 4 e.size
