-- `map_counts::first_on` meets its contract. Assumes nothing.
use Rattle.map_counts.proofs.Sums.{Summed}
use Rattle.map_counts.specs.Counts.{one_on}
use Rattle.map_counts.proofs.first_on.Given as goal

abbrev pub invariant-loop-i : goal.invariant-loop-i
invariant-loop-i l = Summed (one_on l.entries l.key) l.first 1 l.n l.i
