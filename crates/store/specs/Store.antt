-- 02, 2: "21: the bytes lent are no store. They are one exactly when days held is the map's count, no bit is set past the slots, list and room lie in that order
-- behind the header inside the bytes lent, and each used slot holds a key of its own and the range, within the used bytes, which fit the room, of a block that is
-- accepted, has that date and overlaps no other."
use Rattle.std.specs.Prelude.{ℕ, ◌+◌, ◌*◌, List, [], ◌∷◌, Bool, true, false, not, ◌&&◌, length, get_or, leb, eqb}
use Rattle.ground.specs.Lists.{all}
use Rattle.format.specs.Answers.{Answer, accepted, refused}
use Rattle.format.specs.File.{block_check_of}
use Rattle.entries.specs.Little.{piece}
use Rattle.entries.specs.Keys.{Key, kept_key, same_key}
use Rattle.entries.specs.Entries.{key_at}
use Rattle.entries.specs.declared.Entry.{Entry}
use Rattle.store.specs.Used.{used_from, held, none_past}
use Rattle.store.specs.Head.{header_of}
use Rattle.store.specs.Ranges.{slot_place, slot_of, starts, sizes, laid}
use Rattle.store.specs.declared.Header.{Header}

-- ---- counts and offsets

-- "slot count (4 bytes, 1 to 64)"
unfoldable pub slotted : ℕ → Bool
slotted n = leb 1 n && leb n 64

-- "days held is the map's count"
unfoldable pub counted : Header → Bool
counted h = eqb h.days (held h.map)

-- "list and room lie in that order behind the header inside the bytes lent", of which there are n
unfoldable pub in_order : Header → ℕ → Bool
in_order h n = leb 32 h.list && leb (h.list + 26 * h.slots) h.room && leb (h.room + h.size) n

-- "the used bytes, which fit the room"
unfoldable pub used_fit : Header → Bool
used_fit h = leb h.used h.size

-- ---- used slots

abbrev pub used_slots : Header → List ℕ
used_slots h = used_from h.map 0 h.slots

abbrev pub slot_key : List ℕ → Header → ℕ → Key
slot_key m h i = key_at m (slot_place h i)

-- the block of an entry
abbrev pub block_in : List ℕ → Header → Entry → List ℕ
block_in m h e = piece m (h.room + e.start) e.size

-- what a check of it on its own answers
abbrev pub block_says : List ℕ → Header → Entry → Answer
block_says m h e = block_check_of e.minutes e.unit (block_in m h e)

-- "accepted, has that date": the first number of the answer
unfoldable pub is_dated : Answer → ℕ → Bool
is_dated (accepted xs) date = eqb (get_or xs 0 0) date
is_dated (refused x p k i) date = false

-- slot i holds a key and a block of its date
unfoldable pub holds_day : List ℕ → Header → ℕ → Bool
holds_day m h i = kept_key (slot_key m h i) && is_dated (block_says m h (slot_of m h i)) (slot_key m h i).date

-- every element passes the test with every one behind it
unfoldable pub pairwise : {X : Type 0} → (X → X → Bool) → List X → Bool
pairwise p [] = true
pairwise p (x ∷ xs) = all (p x) xs && pairwise p xs

-- "a key of its own"
unfoldable pub other_key : List ℕ → Header → ℕ → ℕ → Bool
other_key m h i j = not (same_key (slot_key m h i) (slot_key m h j))

-- "the range, within the used bytes, [..] overlaps no other"
unfoldable pub ranges_laid : List ℕ → Header → Bool
ranges_laid m h = laid h.used (starts m h h.map) (sizes m h h.map)

-- ---- a store

unfoldable pub is_store_of : List ℕ → Header → Bool
is_store_of m h =
    slotted h.slots && counted h && none_past h.map h.slots && in_order h (length m) && used_fit h
    && ranges_laid m h && all (holds_day m h) (used_slots h) && pairwise (other_key m h) (used_slots h)

unfoldable pub is_store : List ℕ → Bool
is_store m = leb 32 (length m) && is_store_of m (header_of m)
