-- A used slot of a store: its block is accepted and has bytes, which lie in the room, and the update time that a put looks at is the day's. Assumes nothing.
use Prim.Native.Nat.{ℕ, ◌+◌, ◌≤◌, ◌<◌}
use mathlib.Core.Path.{◌≡◌, refl, ap, ◌∙◌}
use mathlib.Core.Bool.{true, false≢true}
use mathlib.Core.List.{List}
use native.Mathlib.Omega.{arith}
use lib.ListN.{length, drop, length-take, length-drop}
use Rattle.ground.proofs.Tests.{and-true}
use Rattle.format.specs.Answers.{Answer, accepted, refused}
use Rattle.format.specs.Day.{day_of}
use Rattle.entries.specs.Keys.{kept_key}
use Rattle.store.specs.Used.{used}
use Rattle.store.specs.Ranges.{slot_of}
use Rattle.store.specs.Store.{slot_key, block_in, block_says, is_dated, holds_day}
use Rattle.store.specs.Calls.{update_said, update_of, day_rows}
use Rattle.store.specs.declared.Header.{Header}
use Rattle.settling.proofs.Slots.{length-starts, start-used, size-used}
use Rattle.stored.proofs.Blocks.{block-some, says-update}
use Rattle.stored.proofs.Whole.{Whole, slot-within}

-- an answer that has a date is accepted
dated : (a : Answer) (t : ℕ) → is_dated a t ≡ true → (xs : List ℕ) × (a ≡ accepted xs)
unfolding is_dated
dated (accepted xs) t e = (xs, refl)
dated (refused x p k i) t e = absurd (false≢true e)

module _ (m : List ℕ) (h : Header) (w : Whole m h) (i : ℕ) (u : used h.map i ≡ true) where
  -- its block is accepted, with these numbers
  pub accepted-there : (numbers : List ℕ) × (block_says m h (slot_of m h i) ≡ accepted numbers)
  unfolding holds_day
  accepted-there =
      dated (block_says m h (slot_of m h i)) (slot_key m h i).date (and-true (kept_key (slot_key m h i)) (is_dated (block_says m h (slot_of m h i)) (slot_key m h i).date) (w.holds i u)).1

  pub slot-few : i < 64
  slot-few = omega (arith, slot-within h.map h.slots i w.past u, w.few)

  -- it has bytes
  pub size-some : 1 ≤ (slot_of m h i).size
  size-some =
      let b : List ℕ = block_in m h (slot_of m h i) in
      omega (
        arith,
        block-some (slot_of m h i).minutes (slot_of m h i).unit b accepted-there.0 accepted-there.1,
        length-take (slot_of m h i).size (drop (h.room + (slot_of m h i).start) m),
      )

  -- which lie in the used bytes
  pub range-within : (slot_of m h i).start + (slot_of m h i).size ≤ h.used
  range-within =
      let s = size-some in
      omega (
        arith,
        w.laid.inside i (omega (arith, slot-few, length-starts m h h.map)) (omega (arith, size-used m h h.map i slot-few u)),
        start-used m h h.map i slot-few u,
        size-used m h h.map i slot-few u,
      )

  pub block-length : length (block_in m h (slot_of m h i)) ≡ (slot_of m h i).size
  block-length =
      let p : ℕ = h.room + (slot_of m h i).start in
      omega (arith, length-take (slot_of m h i).size (drop p m), length-drop p m, range-within, w.fits, w.inside)

  -- the update time that a put looks at is the day's
  pub update-is : update_of m h i ≡ (day_of (day_rows m h (slot_of m h i))).update
  unfolding update_said day_rows
  update-is =
      ap update_said accepted-there.1
      ∙ says-update (slot_of m h i).minutes (slot_of m h i).unit (block_in m h (slot_of m h i)) accepted-there.0 accepted-there.1 (h.room + (slot_of m h i).start)
