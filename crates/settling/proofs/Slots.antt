-- The ranges of a store's slots as lists: what stands at each place. Assumes nothing.
use Prim.Native.Nat.{ℕ, ◌<◌}
use mathlib.Core.Path.{◌≡◌, ◌∙◌}
use mathlib.Core.List.{List}
use mathlib.Core.Bool.{true, false, cond}
use lib.ListN.{length, get_or}
use Rattle.ground.proofs.From.{length_from, from-here}
use Rattle.store.specs.Used.{used}
use Rattle.store.specs.Ranges.{slot_of, starts, sizes}
use Rattle.store.specs.declared.Header.{Header}

-- ---- a slot's range

module _ (m : List ℕ) (h : Header) (map : ℕ) where
  pub length-starts : length (starts m h map) ≡ 64
  length-starts = length_from (λ i. cond (used map i) (slot_of m h i).start 0) 0 64

  pub length-sizes : length (sizes m h map) ≡ 64
  length-sizes = length_from (λ i. cond (used map i) (slot_of m h i).size 0) 0 64

  module _ (i : ℕ) (l : i < 64) where
    start-here : get_or (starts m h map) i 0 ≡ cond (used map i) (slot_of m h i).start 0
    start-here = from-here (λ j. cond (used map j) (slot_of m h j).start 0) 0 64 i l

    size-here : get_or (sizes m h map) i 0 ≡ cond (used map i) (slot_of m h i).size 0
    size-here = from-here (λ j. cond (used map j) (slot_of m h j).size 0) 0 64 i l

    pub start-used : used map i ≡ true → get_or (starts m h map) i 0 ≡ (slot_of m h i).start
    start-used t = start-here ∙ rw t

    pub start-free : used map i ≡ false → get_or (starts m h map) i 0 ≡ 0
    start-free t = start-here ∙ rw t

    pub size-used : used map i ≡ true → get_or (sizes m h map) i 0 ≡ (slot_of m h i).size
    size-used t = size-here ∙ rw t

    pub size-free : used map i ≡ false → get_or (sizes m h map) i 0 ≡ 0
    size-free t = size-here ∙ rw t
