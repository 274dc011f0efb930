-- `map_lines::span` meets its contract. Assumes nothing.
use Rattle.map_lines.specs.Lines.{span_text}
use Rattle.phrase.proofs.Chained.{filled-four}
use Rattle.map_lines.proofs.span.Goals as goal

pub returns : goal.returns
unfolding span_text
returns c = search filled-four
