-- `output_bytes::fill_shares` meets its contract. Assumes nothing.
use Rattle.output_bytes.proofs.Entries.{shares-start, shares-more, shares-end}
use Rattle.output_bytes.proofs.fill_shares.Goals as goal

pub loop-i-init : goal.loop-i-init
loop-i-init c = search shares-start

pub loop-i-preserved : goal.loop-i-preserved
loop-i-preserved c = search shares-more

pub returns : goal.returns
returns c = search shares-end
