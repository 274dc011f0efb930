-- `map_counts::shares_on` meets its contract. Assumes nothing.
use Rattle.map_counts.proofs.Sums.{summed-none, summed-more, summed-all}
use Rattle.map_counts.specs.Counts.{shares_on}
use Rattle.map_counts.proofs.shares_on.Goals as goal

pub loop-i-init : goal.loop-i-init
loop-i-init c = search summed-none

pub loop-i-preserved : goal.loop-i-preserved
loop-i-preserved c = search summed-more

pub returns : goal.returns
unfolding shares_on
returns c = search summed-all
