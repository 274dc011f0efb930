-- `cells::moments::clock` meets its contract. Assumes nothing.
use Rattle.cells.proofs.Clocks.{clock-put}
use Rattle.cells.proofs.moments.clock.Goals as goal

pub returns : goal.returns
returns c = search clock-put
