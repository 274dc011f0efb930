-- `outputs::is_empty` meets its contract. Assumes nothing.
use Rattle.tenants.specs.Outputs.{is_empty}
use borrow.Author.Rules.{rules}
use Rattle.outputs.proofs.is_empty.Goals as goal

pub returns : goal.returns
unfolding is_empty
returns c = search rules
