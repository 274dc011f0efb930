-- 02, 2: "Blocks move down over holes". And the tickets of 02: "After a put or a delete the blocks that stay lie one behind the other from the room's start, in the
-- order in which they lay; a put's block lies last. The used bytes are theirs, and the four offset bytes of each used slot say where its block lies then."
-- So of the room's bytes those that lie in no block are left out, and a block's new offset is how many bytes of blocks lie before it.
use Rattle.std.specs.Prelude.{ℕ, ◌+◌, List, [], ◌∷◌, ◌++◌, Bool, false, cond, ◌&&◌, ◌||◌, length, take, leb, ltb, eqb}
use Rattle.std.proofs.lemmas.List.Edits.{sets}
use Rattle.ground.specs.Lists.{sum}
use Rattle.entries.specs.Little.{piece, in_bytes}
use Rattle.store.specs.Used.{used}
use Rattle.store.specs.Ranges.{slot_place, starts, sizes}
use Rattle.store.specs.declared.Header.{Header}

-- place x is one of the n from place o on
abbrev pub among : ℕ → ℕ → ℕ → Bool
among o n x = leb o x && ltb x (o + n)

-- place x lies in a block
unfoldable pub covered : List ℕ → List ℕ → ℕ → Bool
covered [] ns x = false
covered (o ∷ os) [] x = false
covered (o ∷ os) (n ∷ ns) x = among o n x || covered os ns x

-- of a list whose first byte has place i: the bytes whose places pass the test
unfoldable pub keep : (ℕ → Bool) → ℕ → List ℕ → List ℕ
keep c i [] = []
keep c i (b ∷ bs) = cond (c i) (b ∷ keep c (i + 1) bs) (keep c (i + 1) bs)

-- the room's bytes that lie in a block before place p
abbrev pub kept : List ℕ → List ℕ → List ℕ → ℕ → List ℕ
kept os ns room p = keep (covered os ns) 0 (take p room)

-- f of the offset of each block; a range of no bytes keeps its offset
unfoldable pub placed : (ℕ → ℕ) → List ℕ → List ℕ → List ℕ
placed f [] ns = []
placed f (o ∷ os) [] = o ∷ os
placed f (o ∷ os) (n ∷ ns) = cond (eqb n 0) o (f o) ∷ placed f os ns

-- ---- of the slots that a map has in use

abbrev pub room_in : List ℕ → Header → List ℕ
room_in m h = piece m h.room h.size

-- the bytes of the blocks, in the order in which they lie
unfoldable pub blocks_in : List ℕ → Header → ℕ → List ℕ
blocks_in m h map = keep (covered (starts m h map) (sizes m h map)) 0 (room_in m h)

-- the offsets of the blocks when they lie one behind the other
unfoldable pub new_starts : List ℕ → Header → ℕ → List ℕ
new_starts m h map = placed (λ o. length (kept (starts m h map) (sizes m h map) (room_in m h) o)) (starts m h map) (sizes m h map)

-- "live bytes"
unfoldable pub live : List ℕ → Header → ℕ → ℕ
live m h map = sum (sizes m h map)

-- the offset v of slot i, where the slot is in use
unfoldable pub offset_put : Header → ℕ → ℕ → ℕ → List ℕ → List ℕ
offset_put h map i v m = cond (used map i) (sets m (slot_place h i + 18) (in_bytes 4 v)) m

-- slot i gets the first of the offsets, the slots behind it the others
unfoldable pub offsets_put : Header → ℕ → ℕ → List ℕ → List ℕ → List ℕ
offsets_put h map i [] m = m
offsets_put h map i (v ∷ vs) m = offsets_put h map (i + 1) vs (offset_put h map i v m)

-- the blocks lie one behind the other from the room's start, with one more behind them, and their slots say so
unfoldable pub moved_down : List ℕ → Header → ℕ → List ℕ → List ℕ
moved_down m h map block = offsets_put h map 0 (new_starts m h map) (sets m h.room (blocks_in m h map ++ block))
