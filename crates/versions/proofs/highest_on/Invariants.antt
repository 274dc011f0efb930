-- `versions::highest_on` meets its contract. Assumes nothing.
use Rattle.versions.proofs.Dates.{Above}
use Rattle.versions.proofs.highest_on.Given as goal

abbrev pub invariant-loop-i : goal.invariant-loop-i
invariant-loop-i l = Above l.memory l.date l.i
