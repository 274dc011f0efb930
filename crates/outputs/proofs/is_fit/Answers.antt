-- `outputs::is_fit` meets its contract. Assumes nothing.
use Rattle.outputs.proofs.Channels.{fit-taken}
use Rattle.outputs.proofs.is_fit.Goals as goal

pub returns : goal.returns
returns c = search fit-taken
