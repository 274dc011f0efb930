-- What the steps of a splitting are handed.
use Rattle.std.specs.Prelude.{ℕ, ◌≤◌, ◌≡◌, List, true, length}
use Rattle.ground.specs.Lists.{all}
use Rattle.tenants.specs.Outputs.{fit_output, outputs_given}

-- a total that isn't too large, lists that are long enough, entries that adding takes
pub record Fit (t : ℕ) (keys shares ps : List ℕ) : Type 0 where
  pub total : t ≤ 2880000000000000
  pub key-bytes : 1536 ≤ length keys
  pub places : 128 ≤ length shares
  pub parts : 128 ≤ length ps
  pub entries : all fit_output (outputs_given 128 keys shares) ≡ true
