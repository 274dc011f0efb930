-- `map_table::row_of` meets its contract. Assumes nothing.
use Rattle.map_table.proofs.Ways.{not-four, no_output, row_is_lem}
use Rattle.map_table.proofs.row_of.Goals as goal

pub returns-then-not-has_four : goal.returns-then-not-has_four
returns-then-not-has_four c = search not-four

pub returns-in-Some : goal.returns-in-Some
returns-in-Some c = search row_is_lem

pub returns-in-None : goal.returns-in-None
returns-in-None c = search no_output
