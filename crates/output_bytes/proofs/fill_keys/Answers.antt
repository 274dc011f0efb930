-- `output_bytes::fill_keys` meets its contract. Assumes nothing.
use Rattle.output_bytes.proofs.Entries.{keys-start, keys-more, keys-end}
use Rattle.output_bytes.proofs.fill_keys.Goals as goal

pub loop-i-init : goal.loop-i-init
loop-i-init c = search keys-start

pub loop-i-preserved : goal.loop-i-preserved
loop-i-preserved c = search keys-more

pub returns : goal.returns
returns c = search keys-end
