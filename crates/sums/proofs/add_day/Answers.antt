-- `sums::add_day` meets its contract. Assumes nothing.
use Rattle.sums.proofs.Sums.{day-whole, day-fits}
use borrow.Author.Rules.{rules}
use Rattle.sums.proofs.add_day.Goals as goal

pub add_values-requires : goal.add_values-requires
add_values-requires c = (search rules, search rules, search day-fits)

pub returns : goal.returns
returns c = search day-whole
