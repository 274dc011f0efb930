-- Six decimals without the zeros at their end.
use Rattle.std.specs.Prelude.{ℕ, ◌≤◌, ◌≡◌}
use Rattle.ground.specs.Digits.{padded}
use Rattle.format.specs.Block.{untrail}

-- p decimals are left of f millionths, and write m
pub record Trims (f p m : ℕ) : Type 0 where
  pub left : padded p m ≡ untrail (padded 6 f)
  pub most : p ≤ 6
