-- `map_counts::used` meets its contract. Assumes nothing.
use Rattle.map_counts.proofs.Sums.{Summed}
use Rattle.map_counts.specs.Counts.{one_used}
use Rattle.map_counts.proofs.used.Given as goal

abbrev pub invariant-loop-i : goal.invariant-loop-i
invariant-loop-i l = Summed (one_used l.entries) 128 1 l.n l.i
