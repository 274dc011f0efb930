-- `units::name` meets its contract. Assumes nothing.
use Rattle.units.proofs.Cells.{known}
use Rattle.units.proofs.Names.{name-is, name-none}
use borrow.Author.Rules.{rules}
use Rattle.units.proofs.name.Goals as goal

ruleset laws = (known, rules)

pub letter-requires : goal.letter-requires
letter-requires c = search laws

pub letter-requires-then-is_unit : goal.letter-requires-then-is_unit
letter-requires-then-is_unit c = search laws

pub letter-requires-then-is_unit-2 : goal.letter-requires-then-is_unit-2
letter-requires-then-is_unit-2 c = search laws

pub letter-requires-then-is_unit-3 : goal.letter-requires-then-is_unit-3
letter-requires-then-is_unit-3 c = search laws

pub letter-requires-then-is_unit-4 : goal.letter-requires-then-is_unit-4
letter-requires-then-is_unit-4 c = search laws

pub name_len-requires : goal.name_len-requires
name_len-requires c = search laws

pub returns-then-is_unit : goal.returns-then-is_unit
returns-then-is_unit c = search name-is

pub returns-else-is_unit : goal.returns-else-is_unit
returns-else-is_unit c = search name-none
