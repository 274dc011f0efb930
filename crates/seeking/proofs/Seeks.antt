-- The slot of a key as it is looked for, slot by slot. Assumes nothing.
use Prim.Native.Nat.{ℕ, suc, ◌+◌, ◌-◌, ◌≤◌, ◌<◌}
use mathlib.Core.Path.{◌≡◌, sym, ◌∙◌}
use mathlib.Core.Bool.{Bool, true, false, ◌&&◌}
use mathlib.Core.List.{List}
use native.Mathlib.Nat.{sub-zero}
use native.Mathlib.Numerals.{add-one}
use native.Mathlib.Omega.{arith}
use Rattle.entries.specs.Keys.{Key, capital_key, same_key}
use Rattle.store.specs.Used.{used}
use Rattle.store.specs.Store.{slot_key}
use Rattle.store.specs.Calls.{seek_from, seek}
use Rattle.store.specs.declared.Header.{Header}

-- ---- the walk

-- no slot before slot i has the key
pub record Sought (m : List ℕ) (h : Header) (x : Key) (i : ℕ) : Type 0 where
  pub within : i ≤ h.slots
  pub same : seek_from m h x i (h.slots - i) ≡ seek m h x

module _ (m : List ℕ) (h : Header) (x : Key) where
  pub sought-none : Sought m h x 0
  unfolding seek
  sought-none = record { within = omega arith; same = rw sub-zero }

  module _ (i : ℕ) (r : Sought m h x i) where
    module _ (l : i < h.slots) {b : Bool} (e : b ≡ used h.map i && same_key (capital_key x) (slot_key m h i)) where
      left : h.slots - i ≡ suc (h.slots - (i + 1))
      left = omega arith

      pub sought-here : b ≡ true → i ≡ seek m h x
      unfolding seek_from
      sought-here t = rw (left, sym e ∙ t) at r.same

      pub sought-more : b ≡ false → Sought m h x (i + 1)
      unfolding seek_from
      sought-more t = record { within = omega arith; same = rw (left, sym e ∙ t, ← add-one i) at r.same }

    pub sought-all : h.slots ≤ i → h.slots ≡ seek m h x
    unfolding seek_from
    sought-all l =
        let z : h.slots - i ≡ 0 = omega arith in
        let y : h.slots ≡ i = omega (arith, r.within) in
        y ∙ rw z at r.same
