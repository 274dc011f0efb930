-- `cells::moments::span` meets its contract. Assumes nothing.
use Rattle.cells.proofs.Clocks.{span-put}
use Rattle.cells.proofs.moments.span.Goals as goal

pub returns : goal.returns
returns c = search span-put
