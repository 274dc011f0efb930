-- Where the blocks of used slots lie in the block room: two lists, offsets and lengths, with one place for each of 64 slots. A free slot has a range of no bytes.
use Rattle.std.specs.Prelude.{ℕ, ◌+◌, ◌*◌, List, [], ◌∷◌, Bool, true, false, cond, ◌&&◌, ◌||◌, leb, eqb}
use Rattle.ground.specs.Lists.{from}
use Rattle.entries.specs.Entries.{entry_at}
use Rattle.entries.specs.declared.Entry.{Entry}
use Rattle.store.specs.Used.{used}
use Rattle.store.specs.declared.Header.{Header}

-- where slot i stands
abbrev pub slot_place : Header → ℕ → ℕ
slot_place h i = h.list + 26 * i

-- what it holds
abbrev pub slot_of : List ℕ → Header → ℕ → Entry
slot_of m h i = entry_at m (slot_place h i)

-- of each of the slots that a map has in use
abbrev pub starts : List ℕ → Header → ℕ → List ℕ
starts m h map = from (λ i. cond (used map i) (slot_of m h i).start 0) 0 64

abbrev pub sizes : List ℕ → Header → ℕ → List ℕ
sizes m h map = from (λ i. cond (used map i) (slot_of m h i).size 0) 0 64

-- ---- apart

-- the n bytes at o lie in the first m
unfoldable pub inside : ℕ → ℕ → ℕ → Bool
inside m o n = eqb n 0 || leb (o + n) m

-- the n bytes at o and the k bytes at p have none in common
unfoldable pub apart : ℕ → ℕ → ℕ → ℕ → Bool
apart o n p k = eqb n 0 || eqb k 0 || leb (o + n) p || leb (p + k) o

-- the n bytes at o have none in common with any of the ranges
unfoldable pub clear : ℕ → ℕ → List ℕ → List ℕ → Bool
clear o n [] ns = true
clear o n (p ∷ os) [] = true
clear o n (p ∷ os) (k ∷ ns) = apart o n p k && clear o n os ns

-- each range lies in the first m bytes, and no two have a byte in common
unfoldable pub laid : ℕ → List ℕ → List ℕ → Bool
laid m [] [] = true
laid m [] (n ∷ ns) = false
laid m (o ∷ os) [] = false
laid m (o ∷ os) (n ∷ ns) = inside m o n && clear o n os ns && laid m os ns
