-- `map_counts::shares_on` meets its contract. Assumes nothing.
use Rattle.map_counts.proofs.Sums.{Summed}
use Rattle.map_counts.specs.Counts.{share_on}
use Rattle.map_counts.proofs.shares_on.Given as goal

abbrev pub invariant-loop-i : goal.invariant-loop-i
invariant-loop-i l = Summed (share_on l.entries l.key) 128 65535 l.sum l.i
