-- Parts of a slot's bytes: the numbers behind its NMI and suffix, and one of four bytes alone.
use Rattle.std.specs.Prelude.{ℕ, ◌+◌, List, ◌++◌, cond}
use Rattle.ground.specs.Lists.{from}
use Rattle.entries.specs.Little.{number_at, in_bytes}
use Rattle.entries.specs.declared.Entry.{Entry}
use Rattle.store.specs.Used.{used}
use Rattle.store.specs.Ranges.{slot_place}
use Rattle.store.specs.declared.Header.{Header}

-- the bytes of an entry behind its NMI and suffix
unfoldable pub numbers_of : ℕ → Entry → List ℕ
numbers_of date e = in_bytes 4 date ++ in_bytes 1 e.minutes ++ in_bytes 1 e.unit ++ in_bytes 4 e.start ++ in_bytes 4 e.size

-- the number at place k of slot i, where the slot is in use, and 0 where it is free: at 12 it is the date, at 18 the offset of the slot's block, at 22 its length
unfoldable pub field_of : List ℕ → Header → ℕ → ℕ → ℕ → ℕ
field_of m h map k i = cond (used map i) (number_at m (slot_place h i + k) 4) 0

-- the dates of the slots that a map has in use
abbrev pub dates : List ℕ → Header → ℕ → List ℕ
dates m h map = from (field_of m h map 12) 0 64
