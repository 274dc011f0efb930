-- `verdict::contents` meets its contract. Assumes nothing.
use Rattle.phrase.proofs.Chained.{filled-four}
use Rattle.verdict.specs.Verdicts.{contents_text}
use Rattle.verdict.proofs.contents.Goals as goal

pub returns : goal.returns
unfolding contents_text
returns c = search filled-four
