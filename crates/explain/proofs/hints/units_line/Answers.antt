-- `explain::hints::units_line` meets its contract. Assumes nothing.
use Rattle.page.proofs.Filling.{filled-then}
use Rattle.phrase.specs.Phrases.{line_text}
use Rattle.explain.proofs.hints.units_line.Goals as goal

pub returns : goal.returns
unfolding line_text
returns c = search filled-then
