-- `tries::value_held` meets its contract. Assumes nothing.
use Rattle.tries.proofs.Holds.{held-thousandths}
use borrow.Author.Rules.{rules}
use Rattle.tries.proofs.value_held.Goals as goal

pub returns-then-thousandths : goal.returns-then-thousandths
returns-then-thousandths c = search (held-thousandths, rules)
