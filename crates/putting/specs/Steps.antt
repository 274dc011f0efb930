-- What the steps of a put ask, and what they leave.
use Rattle.std.specs.Prelude.{ℕ, ◌+◌, ◌≤◌, ◌<◌, ◌≡◌, true, List, [], ◌∷◌, length}
use Rattle.format.specs.Answers.{accepted}
use Rattle.format.specs.Block.{Given, day_given, block_of}
use Rattle.entries.specs.Keys.{Key, good_key}
use Rattle.store.specs.Used.{used}
use Rattle.store.specs.Head.{header_of}
use Rattle.store.specs.Ranges.{slot_place}
use Rattle.store.specs.Store.{is_store}
use Rattle.store.specs.Moves.{live, moved_down}
use Rattle.store.specs.Calls.{write_answer}
use Rattle.store.specs.declared.Header.{Header}
use Rattle.settling.specs.Settling.{Settles}

-- the block of a day that is handed in
abbrev pub block_given : Given → List ℕ
block_given g = block_of (day_given g)

-- the day's block, of so many records, has room behind the blocks of the map's slots, which stand before the room
pub record Addable (m : List ℕ) (h : Header) (map : ℕ) (g : Given) (records : ℕ) : Type 0 where
  pub settles : Settles m h map
  pub before : (i : ℕ) → i < 64 → used map i ≡ true → slot_place h i + 26 ≤ h.room
  pub fits : live m h map + length (block_given g) ≤ h.size
  pub answer : write_answer g ≡ accepted (length (block_given g) ∷ records ∷ [])

-- it lies there then
pub record Added (old : List ℕ) (h : Header) (map : ℕ) (block : List ℕ) (r : ℕ) (new : List ℕ) : Type 0 where
  pub bytes : r ≡ live old h map
  pub memory : new ≡ moved_down old h map block

-- a store with its header
pub record Opens (m : List ℕ) (h : Header) : Type 0 where
  pub store : is_store m ≡ true
  pub header : h ≡ header_of m

-- and a good key, and a day that the writer has a block of so many bytes and records for
pub record Puttable (m : List ℕ) (h : Header) (x : Key) (g : Given) (bytes records : ℕ) : Type 0 where
  pub opens : Opens m h
  pub good : good_key x ≡ true
  pub answer : write_answer g ≡ accepted (bytes ∷ records ∷ [])
