-- `map_lines::at_fault` meets its contract. Assumes nothing.
use Rattle.map_lines.specs.Lines.{fault_text}
use Rattle.phrase.proofs.Chained.{filled-four}
use Rattle.map_lines.proofs.at_fault.Goals as goal

pub returns : goal.returns
unfolding fault_text
returns c = search filled-four
