-- `store_lines::made` meets its contract. Assumes nothing.
use Rattle.store_lines.specs.Lines.{made_text}
use Rattle.phrase.proofs.Chained.{filled-four}
use Rattle.store_lines.proofs.made.Goals as goal

pub returns : goal.returns
unfolding made_text
returns c = search filled-four
