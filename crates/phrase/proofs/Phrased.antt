-- Spaces put on a page, and a text behind as many as bring it to its column. Assumes nothing.
use Prim.Native.Nat.{ℕ, ◌-◌, ◌/◌}
use mathlib.Core.Path.{◌≡◌, ap, ◌∙◌}
use mathlib.Core.List.{List}
use native.Mathlib.Omega.{arith}
use lib.ListN.{take, replicate}
use Rattle.ground.specs.Lists.{part}
use Rattle.ground.specs.Digits.{width, dec}
use Rattle.format.specs.Block.{value_text}
use Rattle.page.specs.Filled.{Filled}
use Rattle.page.proofs.Filling.{filled-then, filled-as}
use Rattle.phrase.specs.Phrases.{blank, cell_text, right_text, point_text}

module _ {l m : List ℕ} {at i : ℕ} where
  pub spaces-put : (n : ℕ) (t : List ℕ) → t ≡ part (replicate 80 32) 0 n → Filled l at t i m → Filled l at (blank n) i m
  unfolding blank
  spaces-put n t e p = let z : n - 0 ≡ n = omega arith in filled-as p (e ∙ ap (λ (k : ℕ). take k (replicate 80 32)) z)

  module _ {k : List ℕ} {j : ℕ} (to w b v : ℕ) where
    pub right-put : w ≡ width v → b ≡ to - w → Filled l at (blank (b - at)) i m → Filled m i (dec v) j k → Filled l at (right_text to v at) j k
    unfolding right_text cell_text
    right-put e f p q = rw (← e, ← f) (filled-then p q)

    pub point-put : w ≡ width (v / 1000000) → b ≡ to - w → Filled l at (blank (b - at)) i m → Filled m i (value_text v) j k → Filled l at (point_text to v at) j k
    unfolding point_text cell_text
    point-put e f p q = rw (← e, ← f) (filled-then p q)
