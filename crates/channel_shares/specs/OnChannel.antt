-- 02, 12: "each output on that channel". The tickets of 02: "Letters compare without case". What an output weighs where a total is shared out: its share if it is on
-- the channel, else 0.
use Rattle.std.specs.Prelude.{ℕ, List, map, Bool, cond}
use Rattle.ground.specs.Lists.{same}
use Rattle.entries.specs.Keys.{capitals}
use Rattle.tenants.specs.Outputs.{Output}

-- the output's key, in capitals, is this one
unfoldable pub has_key : List ℕ → Output → Bool
has_key channel o = same (capitals o.key) channel

-- what an output weighs, where a test tells whether it is on the channel
unfoldable pub weight_of : (Output → Bool) → Output → ℕ
weight_of on o = cond (on o) o.share 0

abbrev pub weights_of : (Output → Bool) → List Output → List ℕ
weights_of on os = map (weight_of on) os
