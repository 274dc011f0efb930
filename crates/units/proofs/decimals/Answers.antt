-- `units::decimals` meets its contract. Assumes nothing.
use Rattle.units.proofs.Cells.{known, decimals-at, decimals-few, decimals-none}
use borrow.Author.Rules.{rules}
use Rattle.units.proofs.decimals.Goals as goal

pub cell-requires : goal.cell-requires
cell-requires c = search (known, rules)

pub returns-then-is_unit : goal.returns-then-is_unit
returns-then-is_unit c = search (known, decimals-at, decimals-few)

pub returns-else-is_unit : goal.returns-else-is_unit
returns-else-is_unit c = search (decimals-none, rules)
