-- `units::named_decimals` meets its contract. Assumes nothing.
use Rattle.units.proofs.Names.{number_fits, named-is, named-bad}
use borrow.Author.Rules.{rules}
use Rattle.units.proofs.named_decimals.Goals as goal

pub overflow_cast-u : goal.overflow_cast-u
overflow_cast-u c = search number_fits

pub returns-in-Some : goal.returns-in-Some
returns-in-Some c = search (named-is, rules)

pub returns-in-None : goal.returns-in-None
returns-in-None c = search (named-bad, rules)
