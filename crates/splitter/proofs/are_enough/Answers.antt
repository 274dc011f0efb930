-- `splitter::are_enough` meets its contract. Assumes nothing.
use Rattle.splitter.proofs.Ways.{few-parts, few-keys, enough-shares}
use Rattle.splitter.proofs.are_enough.Goals as goal

pub returns-then-parts-lt-OUTPUTS : goal.returns-then-parts-lt-OUTPUTS
returns-then-parts-lt-OUTPUTS c = search few-parts

pub returns-then-keys-lt-KEY_BYTES : goal.returns-then-keys-lt-KEY_BYTES
returns-then-keys-lt-KEY_BYTES c = search few-keys

pub returns : goal.returns
returns c = search enough-shares
