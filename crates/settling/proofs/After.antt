-- The memory after the blocks were moved down, with a new one behind them: what is as it was, where the blocks lie, and that each has its bytes. Assumes nothing.
use Prim.Native.Nat.{ℕ, ◌+◌, ◌^◌, ◌≤◌, ◌<◌}
use mathlib.Core.Path.{◌≡◌, sym, ap, ap₂, ◌∙◌}
use mathlib.Core.List.{List, ◌++◌}
use mathlib.Core.Bool.{true, false, cond}
use native.Mathlib.Omega.{arith}
use lib.ListN.{length, take, drop, get_or, length-append, take-append-drop}
use lib.Seq.{sets, length-sets, drop-drop, drop_at, take-length}
use Rattle.ground.specs.Lists.{sum}
use Rattle.ground.proofs.Cases.{by}
use Rattle.ground.proofs.From.{from_list}
use Rattle.entries.specs.Little.{piece}
use Rattle.entries.specs.declared.Entry.{Entry}
use Rattle.store.specs.Used.{used}
use Rattle.store.specs.Head.{header_of}
use Rattle.store.specs.Ranges.{slot_place, slot_of, starts, sizes}
use Rattle.store.specs.Store.{slot_key, block_in}
use Rattle.store.specs.Moves.{room_in, blocks_in, new_starts, live, moved_down}
use Rattle.store.specs.declared.Header.{Header}
use Rattle.little.proofs.Pieces.{piece-before, piece-behind, piece_of}
use Rattle.slots.proofs.Back.{key-kept, entry_kept}
use Rattle.slots.proofs.Offsets.{length-offsets, offsets-apart, offsets-key, offsets-used, offsets-free}
use Rattle.ranges.specs.Laid.{Laid}
use Rattle.ranges.proofs.Laws.{laid-wide}
use Rattle.packing.specs.Packing.{pack_of}
use Rattle.packing.proofs.Theorems.{stretch-first, block_in_lem, laid-again, free-place}
use Rattle.settling.specs.Settling.{Settles}
use Rattle.settling.proofs.Slots.{length-starts, length-sizes, start-used, start-free, size-used, size-free}
use Rattle.settling.proofs.Blocks.{length-new, laid-room, blocks-long, live-most, new-ends}

-- the slots in use stand before the room, whose offsets fit four bytes, and their blocks are not empty
pub record Sound (m : List ℕ) (h : Header) (map : ℕ) : Type 0 where
  pub settles : Settles m h map
  pub before : (i : ℕ) → i < 64 → used map i ≡ true → slot_place h i + 26 ≤ h.room
  pub small : h.size < 2 ^ 32
  pub full : (i : ℕ) → i < 64 → used map i ≡ true → 0 < (slot_of m h i).size

module _ (m : List ℕ) (h : Header) (map : ℕ) (block : List ℕ) (s : Sound m h map) (fits : live m h map + length block ≤ h.size) where
  abbrev content : List ℕ
  content = blocks_in m h map ++ block

  abbrev stored : List ℕ
  stored = sets m h.room content

  content-long : length content ≡ live m h map + length block
  content-long = length-append (blocks_in m h map) block ∙ ap (λ (k : ℕ). k + length block) (blocks-long m h map s.settles)

  pub length-after : length (moved_down m h map block) ≡ length m
  unfolding moved_down
  length-after = length-offsets h map 0 (new_starts m h map) stored ∙ length-sets m h.room content

  -- ---- what is as it was

  -- a piece in which no used slot's offset lies
  clear-after : (a k : ℕ) → ((j : ℕ) → j < 64 → used map j ≡ true → slot_place h j + 18 < a + k → slot_place h j + 22 ≤ a)
      → piece (moved_down m h map block) a k ≡ piece stored a k
  unfolding moved_down
  clear-after a k f = offsets-apart h map 0 (new_starts m h map) stored a k (λ j p q. f j (omega (arith, length-new m h map)))

  -- before the room
  pub piece-after : (a k : ℕ) → a + k ≤ h.room → ((j : ℕ) → j < 64 → used map j ≡ true → slot_place h j + 18 < a + k → slot_place h j + 22 ≤ a)
      → piece (moved_down m h map block) a k ≡ piece m a k
  piece-after a k l f = clear-after a k f ∙ piece-before content m a k h.room l

  -- from the room on
  room_after : (a k : ℕ) → h.room ≤ a → piece (moved_down m h map block) a k ≡ piece stored a k
  room_after a k l = clear-after a k (λ j p t g. omega (arith, s.before j p t))

  -- behind the blocks
  pub behind-after : (a k : ℕ) → h.room + (live m h map + length block) ≤ a → piece (moved_down m h map block) a k ≡ piece m a k
  behind-after a k l = room_after a k (omega arith) ∙ piece-behind content m a k h.room (omega (arith, content-long))

  -- before the slots
  pub head-after : (a k : ℕ) → a + k ≤ h.list → a + k ≤ h.room → piece (moved_down m h map block) a k ≡ piece m a k
  head-after a k l g = piece-after a k g (λ j p t d. omega arith)

  pub header-after : 32 ≤ h.list → 32 ≤ h.room → header_of (moved_down m h map block) ≡ header_of m
  unfolding header_of
  header-after l g =
      let f : (a k : ℕ) → a + k ≤ 32 → piece (moved_down m h map block) a k ≡ piece m a k = λ a k e. head-after a k (omega arith) (omega arith) in
      rw (
        f 0 4 (omega arith),
        f 4 4 (omega arith),
        f 8 8 (omega arith),
        f 16 4 (omega arith),
        f 20 4 (omega arith),
        f 24 4 (omega arith),
        f 28 4 (omega arith),
      )

  -- a slot before the room, used or free
  module _ (i : ℕ) (l : slot_place h i + 26 ≤ h.room) where
    pub key-after : slot_key (moved_down m h map block) h i ≡ slot_key m h i
    unfolding moved_down
    key-after = offsets-key h map (new_starts m h map) stored i ∙ key-kept m content h.room (slot_place h i) (λ g. omega arith)

    slot-stored : slot_of stored h i ≡ slot_of m h i
    slot-stored = entry_kept m content h.room (slot_place h i) (λ g. omega arith)

    pub free-after : used map i ≡ false → slot_of (moved_down m h map block) h i ≡ slot_of m h i
    unfolding moved_down
    free-after t = offsets-free h map (new_starts m h map) stored i t ∙ slot-stored

  -- ---- where the blocks lie

  -- a used slot has its block's new offset, and is as it was else
  pub used-after : (i : ℕ) → i < 64 → used map i ≡ true
      → slot_of (moved_down m h map block) h i
      ≡ record { minutes = (slot_of m h i).minutes; unit = (slot_of m h i).unit; start = get_or (new_starts m h map) i 0; size = (slot_of m h i).size }
  unfolding moved_down
  used-after i l t =
      let p = get_or (new_starts m h map) i 0 in
      offsets-used h map (new_starts m h map) stored i t (omega (arith, length-new m h map))
      (omega (arith, s.small, new-ends m h map s.settles i l t (s.full i l t), live-most m h map s.settles))
      (omega (arith, length-sets m h.room content, s.before i l t, s.settles.room))
      ∙ ap (λ (e : Entry). record { minutes = e.minutes; unit = e.unit; start = p; size = e.size }) (slot-stored i (s.before i l t))

  pub start-after : (i : ℕ) → i < 64 → used map i ≡ true → (slot_of (moved_down m h map block) h i).start ≡ get_or (new_starts m h map) i 0
  start-after i l t = ap (λ (e : Entry). e.start) (used-after i l t)

  pub size-after : (i : ℕ) → i < 64 → used map i ≡ true → (slot_of (moved_down m h map block) h i).size ≡ (slot_of m h i).size
  size-after i l t = ap (λ (e : Entry). e.size) (used-after i l t)

  pub sizes-after : sizes (moved_down m h map block) h map ≡ sizes m h map
  sizes-after =
      from_list (sizes m h map) (λ j. cond (used map j) (slot_of (moved_down m h map block) h j).size 0) 64 (length-sizes m h map) (λ j l.
      by (used map j)
      (λ t. rw t (size-after j l t ∙ sym (size-used m h map j l t)))
      (λ t. rw t (sym (size-free m h map j l t))))

  pub live-after : live (moved_down m h map block) h map ≡ live m h map
  unfolding live
  live-after = ap sum sizes-after

  -- a free slot's range stays as it is
  free_new : (i : ℕ) → i < 64 → used map i ≡ false → get_or (new_starts m h map) i 0 ≡ 0
  unfolding pack_of new_starts
  free_new i l t =
      free-place (room_in m h) (starts m h map) (sizes m h map) i
      (omega (arith, length-starts m h map)) (omega (arith, length-sizes m h map)) (size-free m h map i l t)
      ∙ start-free m h map i l t

  pub starts-after : starts (moved_down m h map block) h map ≡ new_starts m h map
  starts-after =
      from_list (new_starts m h map) (λ j. cond (used map j) (slot_of (moved_down m h map block) h j).start 0) 64 (length-new m h map) (λ j l.
      by (used map j)
      (λ t. rw t (start-after j l t))
      (λ t. rw t (sym (free_new j l t))))

  pub laid-after : Laid (starts (moved_down m h map block) h map) (sizes (moved_down m h map block) h map) (live m h map)
  unfolding pack_of new_starts blocks_in
  laid-after =
      let k = s.settles in
      rw (starts-after, sizes-after, ← blocks-long m h map k) (laid-again (room_in m h) (starts m h map) (sizes m h map) (laid-room m h map k))

  pub sound-after : Sound (moved_down m h map block) h map
  sound-after =
      record {
        settles = record { laid = laid-wide laid-after (live-most m h map s.settles); room = omega (arith, length-after, s.settles.room) };
        before = s.before;
        small = s.small;
        full = λ i l t. omega (arith, s.full i l t, size-after i l t);
      }

  -- ---- their bytes

  -- of those that were stored
  stored-after : (a k : ℕ) → a + k ≤ live m h map + length block → piece (moved_down m h map block) (h.room + a) k ≡ piece content a k
  stored-after a k l =
      room_after (h.room + a) k (omega arith)
      ∙ piece_of content m a k h.room (omega (arith, content-long, s.settles.room)) (omega (arith, content-long))

  -- the bytes of a slot's block among those of all blocks
  packed-block : (i : ℕ) → i < 64 → used map i ≡ true → piece (blocks_in m h map) (get_or (new_starts m h map) i 0) (slot_of m h i).size ≡ block_in m h (slot_of m h i)
  unfolding pack_of new_starts blocks_in
  packed-block i l t =
      let n = (slot_of m h i).size in
      let o = (slot_of m h i).start in
      let g = s.full i l t in
      let x = size-used m h map i l t in
      let y = start-used m h map i l t in
      let d : i < length (starts m h map) = omega (arith, length-starts m h map) in
      let u = laid-room m h map s.settles in
      rw (x, y) at (block_in_lem (room_in m h) (starts m h map) (sizes m h map) u i d (omega arith))
      ∙ sym (stretch-first o n (room_in m h) (drop h.size (drop h.room m)) (omega (arith, u.inside i d (omega arith))))
      ∙ ap (λ (z : List ℕ). piece z o n) (take-append-drop h.size (drop h.room m))
      ∙ ap (take n) (drop-drop o h.room m)

  pub block-after : (i : ℕ) → i < 64 → used map i ≡ true → block_in (moved_down m h map block) h (slot_of (moved_down m h map block) h i) ≡ block_in m h (slot_of m h i)
  block-after i l t =
      let n = (slot_of m h i).size in
      let p = get_or (new_starts m h map) i 0 in
      let e = new-ends m h map s.settles i l t (s.full i l t) in
      ap₂ (λ (a : ℕ) (k : ℕ). piece (moved_down m h map block) (h.room + a) k) (start-after i l t) (size-after i l t)
      ∙ stored-after p n (omega arith)
      ∙ stretch-first p n (blocks_in m h map) block (omega (arith, blocks-long m h map s.settles))
      ∙ packed-block i l t

  pub block_new : piece (moved_down m h map block) (h.room + live m h map) (length block) ≡ block
  block_new =
      let b = blocks_in m h map in
      stored-after (live m h map) (length block) (omega arith)
      ∙ ap (take (length block)) (drop_at b block (live m h map) (blocks-long m h map s.settles))
      ∙ take-length block
