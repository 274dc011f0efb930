-- `map_calls::said_lines::output` meets its contract. Assumes nothing.
use Rattle.map_calls.proofs.Answered.{output-put}
use Rattle.map_calls.proofs.said_lines.output.Goals as goal

pub returns : goal.returns
returns c = search output-put
