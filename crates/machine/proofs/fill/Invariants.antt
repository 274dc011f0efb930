-- The bytes that were read stand in the room, and each read adds some.
use Rattle.std.proofs.Common.{length, ◌-◌, ◌≤◌}
use Rattle.machine.proofs.fill.Given as goal

abbrev pub invariant-loop-n : goal.invariant-loop-n
invariant-loop-n g l = l.n ≤ length l.room

abbrev pub decreases-loop-n : goal.decreases-loop-n
decreases-loop-n g l = length l.room - l.n
