-- `cells::quotes::cell` meets its contract. Assumes nothing.
use Rattle.cells.proofs.Doubling.{cell-plain, cell-quoted}
use Rattle.cells.proofs.quotes.cell.Goals as goal

pub returns-then-first_at-text : goal.returns-then-first_at-text
returns-then-first_at-text c = search cell-plain

pub returns-else-first_at-text : goal.returns-else-first_at-text
returns-else-first_at-text c = search cell-quoted
