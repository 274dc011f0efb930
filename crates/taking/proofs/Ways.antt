-- The ways out of each test. Assumes nothing.
use Prim.Native.Nat.{ℕ, ◌≤◌, ◌<◌}
use mathlib.Core.Path.{◌≡◌}
use mathlib.Core.Bool.{cond, ◌&&◌}
use mathlib.Core.List.{List}
use lib.Dec.{leb, ltb}
use borrow.Author.Tests.{le-ltb, lt-ltb}
use Rattle.entries.specs.Entries.{entry_at}
use Rattle.entries.specs.declared.Entry.{Entry}
use Rattle.store.specs.Used.{free_from}
use Rattle.store.specs.Ranges.{slot_place}
use Rattle.store.specs.Store.{block_says}
use Rattle.store.specs.Calls.{update_said, update_of}
use Rattle.store.specs.declared.Header.{Header}

pub kept-since : (m : List ℕ) (h : Header) (i update : ℕ) → i < h.slots → {a u : ℕ} {e : Entry} → a ≡ slot_place h i → e ≡ entry_at m a → u ≡ update_said (block_says m h e)
    → leb update u ≡ ltb i h.slots && leb update (update_of m h i)
kept-since m h i update l ea ee eu = rw (lt-ltb i h.slots l, ← ea, ← ee, ← eu)

pub slot-known : (h : Header) (i : ℕ) → i < h.slots → i ≡ cond (ltb i h.slots) i (free_from h.map 0 h.slots)
slot-known h i l = rw (lt-ltb i h.slots l)

pub slot-new : (h : Header) (i : ℕ) → h.slots ≤ i → {s : ℕ} → s ≡ free_from h.map 0 h.slots → s ≡ cond (ltb i h.slots) i (free_from h.map 0 h.slots)
slot-new h i l e = rw (le-ltb i h.slots l) e
