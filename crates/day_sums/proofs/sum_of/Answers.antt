-- `day_sums::sum_of` meets its contract. Assumes nothing.
use Rattle.sums.proofs.Sums.{few-intervals}
use Rattle.day_sums.proofs.Seeks.{sum-there}
use borrow.Author.Rules.{rules}
use Rattle.day_sums.proofs.sum_of.Goals as goal

pub add_day-requires : goal.add_day-requires
add_day-requires c = (search rules, search rules, search few-intervals)

pub returns : goal.returns
returns c = search sum-there
