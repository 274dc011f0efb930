-- What is asked of one output, and what it counts as. Assumes nothing.
use Prim.Native.Nat.{ℕ}
use mathlib.Core.Path.{◌≡◌}
use mathlib.Core.Bool.{Bool, not}
use mathlib.Core.List.{List}
use lib.ListN.{replicate}
use Rattle.ground.specs.Lists.{same}
use Rattle.tenants.specs.Outputs.{is_empty}
use Rattle.map_counts.specs.Counts.{key_of, is_used}

module _ (e : List ℕ) (i : ℕ) where
  pub used-is : {k : List ℕ} → k ≡ key_of e i → {a : Bool} → a ≡ same k (replicate 12 0) → not a ≡ is_used e i
  unfolding is_empty
  used-is g h = rw (← g, ← h)
