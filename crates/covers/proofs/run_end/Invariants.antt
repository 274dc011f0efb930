-- `covers::run_end` meets its contract. Assumes nothing.
use Rattle.covers.proofs.Covers.{Running}
use Rattle.fit.specs.Tags.{marks_from}
use Rattle.format.specs.Day.{five}
use Rattle.covers.proofs.run_end.Given as goal

abbrev pub invariant-loop-j : goal.invariant-loop-j
invariant-loop-j l = Running (marks_from (five l.flags l.methods l.reasons l.starts l.lengths) l.text) l.n l.i l.j
