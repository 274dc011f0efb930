-- `records::channel_before` meets its contract. Assumes nothing.
use Prim.Native.Nat.{◌-◌, ◌≤◌}
use mathlib.Core.Path.{◌≡◌}
use lib.ListN.{length, drop}
use Rattle.ground.specs.Lists.{part}
use Rattle.format.specs.Cut.{lines}
use Rattle.records.specs.Records.{channel_from, channel_before}
use Rattle.records.proofs.channel_before.Given as goal

abbrev pub invariant-loop-at : goal.invariant-loop-at
invariant-loop-at l = (l.at ≤ length l.file) × (channel_before l.file l.place ≡ channel_from l.place l.at (part l.file l.from l.to) (lines (drop l.at l.file)))

abbrev pub decreases-loop-at : goal.decreases-loop-at
decreases-loop-at l = length l.file - l.at
