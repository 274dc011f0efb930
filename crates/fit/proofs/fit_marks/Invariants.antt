-- `fit::fit_marks` meets its contract. Assumes nothing.
use Rattle.fit.proofs.Marks.{Fitted}
use Rattle.format.specs.Day.{five}
use Rattle.fit.proofs.fit_marks.Given as goal

abbrev pub invariant-loop-i : goal.invariant-loop-i
invariant-loop-i l = Fitted (five l.flags l.methods l.reasons l.starts l.lengths) l.text l.n l.i
