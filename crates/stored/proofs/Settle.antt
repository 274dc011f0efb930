-- The blocks of a store can be moved down, one left out. Assumes nothing.
use Prim.Native.Nat.{ℕ, ◌+◌, ◌^◌, ◌≤◌, ◌<◌}
use mathlib.Core.Path.{◌≡◌}
use mathlib.Core.Bool.{true}
use mathlib.Core.List.{List}
use native.Mathlib.Omega.{arith}
use Rattle.store.specs.Used.{freed}
use Rattle.store.specs.Head.{header_of}
use Rattle.store.specs.Ranges.{slot_place}
use Rattle.store.specs.Store.{is_store}
use Rattle.store.specs.declared.Header.{Header}
use Rattle.ranges.proofs.Laws.{laid-wide}
use Rattle.settling.specs.Settling.{Settles}
use Rattle.settling.proofs.After.{Sound}
use Rattle.settling.proofs.Fewer.{settles-fewer, sound-fewer}
use Rattle.stored.proofs.Whole.{Whole, whole, slot-within}
use Rattle.stored.proofs.Holds.{size-some}

module _ (m : List ℕ) (h : Header) (w : Whole m h) where
  -- the slots stand before the room
  pub slot-before : (i : ℕ) → i < h.slots → slot_place h i + 26 ≤ h.room
  slot-before i l = omega (arith, w.order)

  settles : Settles m h h.map
  settles = record { laid = laid-wide w.laid w.fits; room = w.inside }

  pub sound : h.size < 2 ^ 32 → (s : ℕ) → Sound m h (freed h.map s)
  sound small s =
      sound-fewer m h h.map s
      (record {
        settles = settles;
        before = λ i l t. slot-before i (slot-within h.map h.slots i w.past t);
        small = small;
        full = λ i l t. size-some m h w i t;
      })

pub settles-without : (m : List ℕ) → is_store m ≡ true → (s : ℕ) → Settles m (header_of m) (freed (header_of m).map s)
settles-without m t s = settles-fewer m (header_of m) (header_of m).map s (settles m (header_of m) (whole m t))
