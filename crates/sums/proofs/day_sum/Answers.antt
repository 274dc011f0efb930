-- `sums::day_sum` meets its contract. Assumes nothing.
use Rattle.day.proofs.Find.{day-order, day-within, under-order, under-within}
use Rattle.sums.proofs.Sums.{few-intervals, sum-there, sum-none}
use Rattle.sums.proofs.day_sum.Goals as goal

pub intervals_of-requires : goal.intervals_of-requires
intervals_of-requires c = (search under-order, search under-within)

pub add_day-requires : goal.add_day-requires
add_day-requires c = (search day-order, search day-within, search few-intervals)

pub returns-in-Some : goal.returns-in-Some
returns-in-Some c = search sum-there

pub returns-in-None : goal.returns-in-None
returns-in-None c = search sum-none
