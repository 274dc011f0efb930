-- `output_bytes::put_output` meets its contract. Assumes nothing.
use Rattle.output_bytes.proofs.Entries.{entry-put}
use Rattle.output_bytes.proofs.put_output.Goals as goal

pub returns : goal.returns
returns c = search entry-put
