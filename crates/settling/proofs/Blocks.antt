-- The blocks of a store's used slots: how many bytes they have, and a new one behind them. Assumes nothing.
use Prim.Native.Nat.{ℕ, ◌+◌, ◌≤◌, ◌<◌}
use mathlib.Core.Path.{◌≡◌, sym, ap, ◌∙◌}
use mathlib.Core.Bool.{true}
use mathlib.Core.List.{List, [], ◌++◌, append-nil}
use native.Mathlib.Omega.{arith}
use lib.ListN.{length, get_or}
use lib.Seq.{sets}
use Rattle.ground.specs.Lists.{sum}
use Rattle.ground.proofs.Room.{sets-append}
use Rattle.store.specs.Used.{used}
use Rattle.store.specs.Ranges.{slot_place, slot_of, starts, sizes}
use Rattle.store.specs.Moves.{room_in, covered, kept, blocks_in, new_starts, live, offsets_put, moved_down}
use Rattle.store.specs.declared.Header.{Header}
use Rattle.moving.proofs.Moves.{length-stretch}
use Rattle.ranges.specs.Laid.{Laid}
use Rattle.packing.specs.Packing.{pack_of}
use Rattle.packing.proofs.Keeps.{length-keep, length-placed}
use Rattle.packing.proofs.Theorems.{ends-in, bytes-sum}
use Rattle.settling.specs.Settling.{Settles}
use Rattle.settling.proofs.Slots.{length-starts, size-used}
use Rattle.settling.proofs.Offsets.{offsets-sets}

module _ (m : List ℕ) (h : Header) (map : ℕ) where
  -- the live bytes are the sum of the lengths
  pub live-sum : (ns : List ℕ) (r : ℕ) → ns ≡ sizes m h map → r ≡ sum ns → r ≡ live m h map
  unfolding live
  live-sum ns r e f = f ∙ ap sum e

  pub length-new : length (new_starts m h map) ≡ 64
  unfolding new_starts
  length-new = length-placed (λ (o : ℕ). length (kept (starts m h map) (sizes m h map) (room_in m h) o)) (starts m h map) (sizes m h map) ∙ length-starts m h map

  module _ (k : Settles m h map) where
    pub room-long : length (room_in m h) ≡ h.size
    room-long = length-stretch m h.room h.size k.room

    pub laid-room : Laid (starts m h map) (sizes m h map) (length (room_in m h))
    laid-room = rw room-long k.laid

    pub blocks-long : length (blocks_in m h map) ≡ live m h map
    unfolding blocks_in live
    blocks-long = bytes-sum (room_in m h) (starts m h map) (sizes m h map) laid-room

    pub live-most : live m h map ≤ h.size
    unfolding blocks_in
    live-most = omega (arith, blocks-long, room-long, length-keep (covered (starts m h map) (sizes m h map)) 0 (room_in m h))

    -- a block's new range
    pub new-ends : (i : ℕ) → i < 64 → used map i ≡ true → 0 < (slot_of m h i).size → get_or (new_starts m h map) i 0 + (slot_of m h i).size ≤ live m h map
    unfolding pack_of new_starts blocks_in
    new-ends i l t g =
        let e = size-used m h map i l t in
        omega (
          arith,
          blocks-long,
          ends-in (room_in m h) (starts m h map) (sizes m h map) laid-room i (omega (arith, length-starts m h map)) (omega arith),
        )

    -- moved down first, the new block written then: the same as both at once
    pub moved-then-put : ((i : ℕ) → i < 64 → used map i ≡ true → slot_place h i + 26 ≤ h.room) → (block : List ℕ)
        → sets (moved_down m h map []) (h.room + live m h map) block ≡ moved_down m h map block
    unfolding moved_down
    moved-then-put before block =
        let b = blocks_in m h map in
        offsets-sets h map 0 (new_starts m h map) (sets m h.room (b ++ [])) (h.room + live m h map) block
        (λ j p q t. omega (arith, before j (omega (arith, length-new)) t))
        ∙ ap (λ (z : List ℕ). offsets_put h map 0 (new_starts m h map) z)
        (ap (λ (z : List ℕ). sets (sets m h.room z) (h.room + live m h map) block) (append-nil b)
        ∙ ap (λ (i : ℕ). sets (sets m h.room b) (h.room + i) block) (sym blocks-long)
        ∙ sym (sets-append m h.room b block))
