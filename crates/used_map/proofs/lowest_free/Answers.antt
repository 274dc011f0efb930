-- `used_map::lowest_free` meets its contract: the lowest free slot of all is how many zeros the inverse ends with (`lowest`). Assumes nothing.
use Rattle.used_map.proofs.Slots.{lowest}
use native.Mathlib.Omega.{arith}
use Rattle.used_map.proofs.lowest_free.Goals as goal

pub returns : goal.returns
returns c = omega (arith, lowest c.args.map c.args.slots c.ranges.map.fits)
