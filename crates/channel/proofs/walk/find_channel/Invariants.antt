-- `channel::walk::find_channel` meets its contract. Assumes nothing.
use Prim.Native.Nat.{◌≤◌, ◌-◌}
use Rattle.channel.specs.Places.{totals_in, totals_at}
use lib.ListN.{length, drop}
use mathlib.Core.Path.{◌≡◌}
use Rattle.channel.proofs.walk.find_channel.Given as goal

abbrev pub invariant-loop-channel : goal.invariant-loop-channel
invariant-loop-channel l = (l.at ≤ length l.file) × (drop l.channel (totals_in l.file) ≡ drop l.left (totals_at l.file l.at))

abbrev pub decreases-loop-channel : goal.decreases-loop-channel
decreases-loop-channel l = length l.file - l.at
