-- What the steps of a sharing out are handed: the bounds within which no product is too large.
use Rattle.std.specs.Prelude.{ℕ, ◌≤◌, ◌<◌, ◌≡◌, List, true, length, leb}
use Rattle.ground.specs.Lists.{all, sum}
use Rattle.shares.specs.Shares.{remainders, leftover}

-- at most 128 weights, none above 1000
pub record Light (ws : List ℕ) : Type 0 where
  pub few : length ws ≤ 128
  pub light : all (λ (w : ℕ). leb w 1000) ws ≡ true

-- a total and weights that can be shared out without a product that is too large: s is the weights' sum
pub record Ready (t s : ℕ) (ws : List ℕ) : Type 0 where
  pub total : t ≤ 2880000000000000
  pub weights : Light ws
  pub divisor : s ≡ sum ws
  pub some : 0 < s

-- a total whose remainders are known, and what remains of it when every part is rounded down
pub record Rounded (t s left : ℕ) (ws rs : List ℕ) : Type 0 where
  pub ready : Ready t s ws
  pub remain : left ≡ leftover t ws
  pub rests : rs ≡ remainders t ws
