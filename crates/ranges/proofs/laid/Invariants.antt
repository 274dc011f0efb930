-- `ranges::laid` meets its contract: what is left of the lists at i decides what the lists decide (`Laying`). Assumes nothing.
use Rattle.ranges.proofs.Checks.{Laying}
use Rattle.ranges.proofs.laid.Given as goal

abbrev pub invariant-loop-i : goal.invariant-loop-i
invariant-loop-i l = Laying l.m l.places l.lengths l.i
