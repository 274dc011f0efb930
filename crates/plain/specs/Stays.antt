-- What a store holds, and what a put or a delete leaves of it.
use Rattle.std.specs.Prelude.{ℕ, ◌+◌, ◌<◌, ◌≡◌, List, [], ◌∷◌, true, false, cond, length, get_or}
use Rattle.format.specs.Day.{Day, day_of}
use Rattle.entries.specs.Keys.{Key, capital_key, same_key}
use Rattle.store.specs.Head.{header_of}
use Rattle.store.specs.Ranges.{slot_of}
use Rattle.store.specs.Store.{block_in, is_store}
use Rattle.store.specs.Calls.{seek, is_there, key_given, day_rows}
use Rattle.plain.specs.Plain.{Call, put, get, delete, store_step}

-- the day that a store holds of a key, or none
unfoldable pub day_held : List ℕ → Key → List Day
day_held m x = cond (is_there m (header_of m) x) (day_of (day_rows m (header_of m) (slot_of m (header_of m) (seek m (header_of m) x))) ∷ []) []

-- and its block
unfoldable pub block_held : List ℕ → Key → List (List ℕ)
block_held m x = cond (is_there m (header_of m) x) (block_in m (header_of m) (slot_of m (header_of m) (seek m (header_of m) x)) ∷ []) []

-- a store is left, which of this key holds the days ds, and of every other key the very block, and the same day, that it held before
pub record Stays (m m' : List ℕ) (x : Key) (ds : List Day) : Type 0 where
  pub store : is_store m' ≡ true
  pub own : day_held m' x ≡ ds
  pub others : (y : Key) → same_key (capital_key y) (capital_key x) ≡ false → day_held m' y ≡ day_held m y
  pub blocks : (y : Key) → same_key (capital_key y) (capital_key x) ≡ false → block_held m' y ≡ block_held m y

-- the key that a call names
abbrev pub named : Call → Key
named (put nmi suffix g) = key_given nmi suffix g
named (get x vs ms) = x
named (delete x) = x

-- the memory that calls leave
unfoldable pub memory_after : List Call → List ℕ → List ℕ
memory_after [] m = m
memory_after (c ∷ cs) m = memory_after cs (store_step c m).memory

-- lent bytes
abbrev pub AreBytes : List ℕ → Type 0
AreBytes m = (i : ℕ) → get_or m i 0 < 256

-- m' is what a put of the day d that answered xs left of m: the day is held, the answer is the days held then, and they are one more, or as many where a day of
-- the key was held before
pub record StillPut (m m' : List ℕ) (x : Key) (d : Day) (xs : List ℕ) : Type 0 where
  pub stays : Stays m m' x (d ∷ [])
  pub answer : xs ≡ (header_of m').days ∷ []
  pub days : (header_of m').days + length (day_held m x) ≡ (header_of m).days + 1

-- and what a delete left: no day of the key, and one day fewer
pub record StillDelete (m m' : List ℕ) (x : Key) (xs : List ℕ) : Type 0 where
  pub stays : Stays m m' x []
  pub answer : xs ≡ (header_of m').days ∷ []
  pub days : (header_of m').days + 1 ≡ (header_of m).days
