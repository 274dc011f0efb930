-- `split_lines::title` meets its contract. Assumes nothing.
use Rattle.phrase.proofs.Chained.{filled-four}
use Rattle.split_lines.specs.Lines.{title_text}
use Rattle.split_lines.proofs.title.Goals as goal

pub returns : goal.returns
unfolding title_text
returns c = search filled-four
