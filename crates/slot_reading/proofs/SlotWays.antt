-- The ways out of the reading of a slot. Assumes nothing.
use Rattle.std.proofs.Common.{Option, Some, None}
use Prim.Native.Nat.{ℕ, ◌+◌, ◌≤◌, ◌<◌}
use mathlib.Core.Path.{◌≡◌}
use mathlib.Core.Bool.{Bool, true, false}
use mathlib.Core.List.{List, [], ◌∷◌}
use borrow.Author.Tests.{le-ltb, lt-ltb}
use Rattle.format.specs.Answers.{Answer, accepted, refusal}
use Rattle.entries.specs.Little.{number_at}
use Rattle.entries.specs.Entries.{key_at, entry_at}
use Rattle.entries.specs.declared.Entry.{Entry}
use Rattle.store.specs.Used.{used}
use Rattle.store.specs.Ranges.{slot_place, slot_of}
use Rattle.store.specs.Store.{block_says}
use Rattle.store.specs.Calls.{update_said, slot_says, slot_read_of, read_slot_of}
use Rattle.store.specs.declared.Header.{Header}
use Rattle.opening.specs.Opens.{opened_of}
use Rattle.opening.proofs.Ways.{opened-store, opened-header, opened-not}

pub used-says : (m : List ℕ) (h : Header) (i : ℕ) {a t v : ℕ} {e : Entry} → a ≡ slot_place h i → e ≡ entry_at m a → t ≡ number_at m (a + 12) 4 → v ≡ update_said (block_says m h e)
    → accepted (a ∷ (a + 10) ∷ t ∷ e.minutes ∷ e.unit ∷ v ∷ (h.room + e.start) ∷ (h.room + e.start + e.size) ∷ []) ≡ slot_says m h (slot_place h i) (slot_of m h i)
unfolding slot_says key_at
used-says m h i ea ee et ev = rw (← ea, ← ee, ← et, ← ev)

module _ (m : List ℕ) (h : Header) (i : ℕ) where
  pub no_slot : h.slots ≤ i → {a : Answer} → a ≡ refusal 14 → a ≡ slot_read_of m h i
  unfolding slot_read_of
  no_slot l q = rw (le-ltb i h.slots l) q

  module _ (l : i < h.slots) {b : Bool} (e : b ≡ used h.map i) where
    pub slot-used : b ≡ true → {a : Answer} → a ≡ slot_says m h (slot_place h i) (slot_of m h i) → a ≡ slot_read_of m h i
    unfolding slot_read_of
    slot-used t q = rw (lt-ltb i h.slots l, ← e, t) q

    pub slot-free : b ≡ false → accepted [] ≡ slot_read_of m h i
    unfolding slot_read_of
    slot-free t = rw (lt-ltb i h.slots l, ← e, t)

module _ (m : List ℕ) (i : ℕ) {o : Option Header} (e : o ≡ opened_of m) where
  pub not-store : o ≡ None → {a : Answer} → a ≡ refusal 21 → a ≡ read_slot_of m i
  unfolding read_slot_of
  not-store q p = rw (opened-not m e q) p

  pub slot_read : {h : Header} → o ≡ Some h → {a : Answer} → a ≡ slot_read_of m h i → a ≡ read_slot_of m i
  unfolding read_slot_of
  slot_read q p = rw (opened-store m e q, ← opened-header m e q) p
