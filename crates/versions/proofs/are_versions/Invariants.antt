-- `versions::are_versions` meets its contract. Assumes nothing.
use Rattle.versions.proofs.Maps.{Walked}
use Rattle.versions.proofs.are_versions.Given as goal

abbrev pub invariant-loop-i : goal.invariant-loop-i
invariant-loop-i l = Walked l.memory l.n l.last l.i
