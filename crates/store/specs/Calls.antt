-- 02, 2, call by call: what each answers, and every byte of memory that it leaves.
use Rattle.std.specs.Prelude.{ℕ, zero, suc, ◌+◌, ◌-◌, ◌*◌, min, List, [], ◌∷◌, Bool, cond, not, ◌&&◌, length, get_or, leb, ltb, Result, Ok, Err, Option, Some, None}
use Rattle.std.proofs.lemmas.List.Edits.{sets}
use Rattle.format.specs.Numbers.{intervals_of}
use Rattle.format.specs.Cut.{Lines, line, rest, lines}
use Rattle.format.specs.Answers.{Answer, accepted, refused, refusal, refused_as}
use Rattle.format.specs.declared.Refusal.{Refusal}
use Rattle.format.specs.File.{most}
use Rattle.format.specs.Day.{row_at, BlockRows, runs_from, Five, Outcome, outcome, room_for, read_into}
use Rattle.format.specs.Block.{Given, day_given, block_of, write_of}
use Rattle.entries.specs.Left.{Left, left, unless}
use Rattle.entries.specs.Keys.{Key, key, capital_key, good_key, same_key}
use Rattle.entries.specs.Entries.{key_at, entry_bytes}
use Rattle.entries.specs.declared.Entry.{Entry}
use Rattle.store.specs.Used.{used, taken, freed, held, free_from}
use Rattle.store.specs.Head.{header_of, header_bytes, header_with}
use Rattle.store.specs.Ranges.{slot_place, slot_of}
use Rattle.store.specs.Store.{slotted, slot_key, block_in, block_says, is_store}
use Rattle.store.specs.Moves.{live, moved_down}
use Rattle.store.specs.declared.Header.{Header}
use Rattle.store.specs.declared.Slot.{Slot}

-- the room's length
abbrev pub made_as : Result ℕ Refusal → Answer
made_as (Ok n) = accepted (n ∷ [])
made_as (Err x) = refused_as x

-- the days held
abbrev pub kept_as : Result ℕ Refusal → Answer
kept_as (Ok n) = accepted (n ∷ [])
kept_as (Err x) = refused_as x

-- ---- make

-- where the room of a store with n slots begins
abbrev pub room_at : ℕ → ℕ
room_at n = 32 + 26 * n

-- the room's length in k bytes: "the rest, up to 1,048,576, is room"
abbrev pub room_size : ℕ → ℕ → ℕ
room_size n k = min (k - room_at n) most

-- the header of an empty store with n slots in k bytes
unfoldable pub new_header : ℕ → ℕ → Header
new_header n k = record { slots = n; days = 0; map = 0; list = 32; room = room_at n; size = room_size n k; used = 0 }

-- "Making one answers 21 for another slot count, 15 for too few bytes for header and slots". The header is written, and no other byte.
unfoldable pub make_of : List ℕ → ℕ → Left
make_of m n =
    unless (slotted n) 21 m
    (unless (leb (room_at n) (length m)) 15 m
    (left (accepted (room_size n (length m) ∷ [])) (sets m 0 (header_bytes (new_header n (length m))))))

-- ---- the slot of a key

-- the first used slot of the k slots from slot i on that has this key; i + k where none has
unfoldable pub seek_from : List ℕ → Header → Key → ℕ → ℕ → ℕ
seek_from m h x i zero = i
seek_from m h x i (suc k) = cond (used h.map i && same_key (capital_key x) (slot_key m h i)) i (seek_from m h x (suc i) k)

-- the slot of a key, or the number of slots where no slot has it
unfoldable pub seek : List ℕ → Header → Key → ℕ
seek m h x = seek_from m h x 0 h.slots

abbrev pub is_there : List ℕ → Header → Key → Bool
is_there m h x = ltb (seek m h x) h.slots

-- ---- put

-- the update time, the third number of the answer that a check of a block gives
unfoldable pub update_said : Answer → ℕ
update_said (accepted xs) = get_or xs 2 0
update_said (refused x p k i) = 0

-- the update time of slot i's day
abbrev pub update_of : List ℕ → Header → ℕ → ℕ
update_of m h i = update_said (block_says m h (slot_of m h i))

-- "A new key takes the lowest free slot, a known one keeps its slot."
unfoldable pub slot_for : List ℕ → Header → Key → ℕ
slot_for m h x = cond (is_there m h x) (seek m h x) (free_from h.map 0 h.slots)

-- the map of the slots whose blocks stay: "the replaced day left out" (where the key is new no slot is left out: no bit is set past the slots)
abbrev pub map_without : List ℕ → Header → Key → ℕ
map_without m h x = freed h.map (seek m h x)

-- the slot of a day that is handed in, whose block has so many bytes and lies behind the blocks that stay
unfoldable pub entry_for : ℕ → Given → ℕ → Entry
entry_for start g size = record { minutes = g.head.length; unit = g.head.unit; start = start; size = size }

-- the blocks that stay move down over holes, the new one lies last, its slot is written, and the header
unfoldable pub put_into : List ℕ → Header → ℕ → ℕ → Key → Given → List ℕ → List ℕ
put_into m h map s x g block =
    sets
    (sets (moved_down m h map block) (slot_place h s) (entry_bytes (capital_key x) (entry_for (live m h map) g (length block))))
    0 (header_bytes (header_with h (taken map s) (live m h map + length block)))

-- "A put with a later update time replaces the day; an equal or earlier one is refused (18)." "19: every slot used and the key is new. 20: live bytes, the replaced
-- day left out, plus the new block exceed the room." The days held then are answered.
unfoldable pub put_fit : List ℕ → Header → Key → Given → List ℕ → Left
put_fit m h x g block =
    unless (not (is_there m h x && leb g.head.update (update_of m h (seek m h x)))) 18 m
    (unless (ltb (slot_for m h x) h.slots) 19 m
    (unless (leb (live m h (map_without m h x) + length block) h.size) 20 m
    (left (accepted (held (taken (map_without m h x) (slot_for m h x)) ∷ [])) (put_into m h (map_without m h x) (slot_for m h x) x g block))))

-- a refusal leaves every byte of memory
abbrev pub or_refused : Answer → List ℕ → Left → Left
or_refused (accepted xs) m l = l
or_refused (refused x p k i) m l = left (refused x p k i) m

-- the key of a day that is handed in
abbrev pub key_given : List ℕ → List ℕ → Given → Key
key_given nmi suffix g = key nmi suffix g.head.date

-- what the writer answers where it has room for the block
abbrev pub write_answer : Given → Answer
write_answer g = write_of g (length (block_of (day_given g)))

-- "Order of a put: 21, 16 for a bad key, the writer's order up to its room, 18, 19, 20."
unfoldable pub put_of : List ℕ → List ℕ → List ℕ → Given → Left
put_of m nmi suffix g =
    unless (is_store m) 21 m
    (unless (good_key (key_given nmi suffix g)) 16 m
    (or_refused (write_answer g) m
    (put_fit m (header_of m) (key_given nmi suffix g) g (block_of (day_given g)))))

-- ---- delete

-- the slot is free then, and keeps its bytes; the blocks that stay move down over holes
unfoldable pub delete_from : List ℕ → Header → ℕ → Left
delete_from m h map =
    left (accepted (held map ∷ [])) (sets (moved_down m h map []) 0 (header_bytes (header_with h map (live m h map))))

-- "Deleting an absent key is 14."
unfoldable pub delete_of : List ℕ → Key → Left
delete_of m x =
    unless (is_store m) 21 m
    (unless (is_there m (header_of m) x) 14 m
    (delete_from m (header_of m) (map_without m (header_of m) x)))

-- ---- get

-- the records of a block of n intervals in that unit, at place p
unfoldable pub rows_at : ℕ → ℕ → ℕ → Lines → BlockRows
rows_at n unit p (rest t) = record { n = n; unit = unit; top = row_at p []; runs = [] }
rows_at n unit p (line r ls) = record { n = n; unit = unit; top = row_at p r; runs = runs_from (p + length r + 2) ls }

-- of an entry's block: "description places are in the store"
unfoldable pub day_rows : List ℕ → Header → Entry → BlockRows
day_rows m h e = rows_at (intervals_of e.minutes) e.unit (h.room + e.start) (lines (block_in m h e))

-- "A get answers 21, 14, 15."
unfoldable pub get_from : BlockRows → List ℕ → Five → Outcome
get_from d vs ms = cond (room_for d.n vs ms) (read_into d vs ms) (outcome (refusal 15) vs ms)

unfoldable pub get_of : List ℕ → Key → List ℕ → Five → Outcome
get_of m x vs ms =
    cond (is_store m)
    (cond (is_there m (header_of m) x)
    (get_from (day_rows m (header_of m) (slot_of m (header_of m) (seek m (header_of m) x))) vs ms)
    (outcome (refusal 14) vs ms))
    (outcome (refusal 21) vs ms)

-- ---- one slot

-- nothing for a free slot; else the places of NMI and suffix, date, interval length, unit, update time, where the block starts and ends
abbrev pub slot_read_as : Result (Option Slot) Refusal → Answer
slot_read_as (Ok None) = accepted []
slot_read_as (Ok (Some s)) = accepted (s.nmi ∷ s.suffix ∷ s.date ∷ s.length ∷ s.unit ∷ s.update ∷ s.start ∷ s.end ∷ [])
slot_read_as (Err x) = refused_as x

unfoldable pub slot_says : List ℕ → Header → ℕ → Entry → Answer
slot_says m h a e =
    accepted
    (a ∷ (a + 10) ∷ (key_at m a).date ∷ e.minutes ∷ e.unit ∷ update_said (block_says m h e) ∷ (h.room + e.start) ∷ (h.room + e.start + e.size) ∷ [])

-- "21, 14 for a slot number at or past the count; all its places are places in `memory`"
unfoldable pub slot_read_of : List ℕ → Header → ℕ → Answer
slot_read_of m h i =
    cond (ltb i h.slots) (cond (used h.map i) (slot_says m h (slot_place h i) (slot_of m h i)) (accepted [])) (refusal 14)

unfoldable pub read_slot_of : List ℕ → ℕ → Answer
read_slot_of m i = cond (is_store m) (slot_read_of m (header_of m) i) (refusal 21)
