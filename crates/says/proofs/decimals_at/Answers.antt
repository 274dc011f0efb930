-- `says::decimals_at` meets its contract. Assumes nothing.
use borrow.Author.Rules.{rules}
use Rattle.says.proofs.decimals_at.Goals as goal

pub returns : goal.returns
returns c = record { is = cc; few = search rules }
