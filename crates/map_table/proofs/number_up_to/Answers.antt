-- `map_table::number_up_to` meets its contract. Assumes nothing.
use Rattle.map_table.proofs.Ways.{number-within, number-above, number-none}
use Rattle.map_table.proofs.number_up_to.Goals as goal

pub returns-then-n-most : goal.returns-then-n-most
returns-then-n-most c = search number-within

pub returns-else-n-most : goal.returns-else-n-most
returns-else-n-most c = search number-above

pub returns-in-None : goal.returns-in-None
returns-in-None c = search number-none
