-- `settling::live_with` meets its contract: the live bytes are the sum of the lengths. Assumes nothing.
use Rattle.settling.proofs.Blocks.{live-sum}
use Rattle.settling.proofs.live_with.Goals as goal

pub returns : goal.returns
returns c = search live-sum
