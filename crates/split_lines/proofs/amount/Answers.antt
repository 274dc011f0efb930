-- `split_lines::amount` meets its contract. Assumes nothing.
use Rattle.page.proofs.Filling.{filled-then}
use Rattle.split_lines.specs.Lines.{amount_text}
use Rattle.split_lines.proofs.amount.Goals as goal

pub returns : goal.returns
unfolding amount_text
returns c = search filled-then
