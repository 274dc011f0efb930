-- `map_counts::channels` meets its contract. Assumes nothing.
use Rattle.map_counts.proofs.Sums.{Summed}
use Rattle.map_counts.specs.Counts.{one_first}
use Rattle.map_counts.proofs.channels.Given as goal

abbrev pub invariant-loop-i : goal.invariant-loop-i
invariant-loop-i l = Summed (one_first l.entries) 128 1 l.n l.i
