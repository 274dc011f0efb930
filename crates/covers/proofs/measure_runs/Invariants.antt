-- `covers::measure_runs` meets its contract. Assumes nothing.
use Prim.Native.Nat.{◌-◌}
use Rattle.covers.proofs.Covers.{Summed}
use Rattle.fit.specs.Tags.{marks_from}
use Rattle.format.specs.Day.{five}
use Rattle.covers.proofs.measure_runs.Given as goal

abbrev pub invariant-loop-i : goal.invariant-loop-i
invariant-loop-i l = Summed (marks_from (five l.flags l.methods l.reasons l.starts l.lengths) l.text) l.n l.bytes l.records l.i

abbrev pub decreases-loop-i : goal.decreases-loop-i
decreases-loop-i l = l.n - l.i
