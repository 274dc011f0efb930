-- `output_bytes::put_outputs` meets its contract. Assumes nothing.
use Rattle.output_bytes.proofs.Entries.{given-start, given-more, given-end}
use Rattle.output_bytes.proofs.put_outputs.Goals as goal

pub loop-i-init : goal.loop-i-init
loop-i-init c = search given-start

pub loop-i-preserved : goal.loop-i-preserved
loop-i-preserved c = search given-more

pub returns : goal.returns
returns c = search given-end
