-- `lines::past_chunks` meets its contract. Assumes nothing.
use Rattle.lines.proofs.Ends.{unended-chunk}
use Rattle.lines.proofs.past_chunks.Goals as goal

pub loop-i-preserved : goal.loop-i-preserved
loop-i-preserved c = search unended-chunk
