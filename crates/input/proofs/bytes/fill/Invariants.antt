use Rattle.std.proofs.Common.{◌-◌, length}
use Rattle.input.proofs.bytes.fill.Given as goal

abbrev pub decreases-loop-n : goal.decreases-loop-n
decreases-loop-n g l = length l.to - l.n
