-- `split_calls::said_lines::parts` meets its contract. Assumes nothing.
use Rattle.page.proofs.Listed.{counted_none, counted-more}
use Rattle.split_calls.proofs.said_lines.parts.Goals as goal

pub loop-i-init : goal.loop-i-init
loop-i-init c = search counted_none

pub loop-i-preserved : goal.loop-i-preserved
loop-i-preserved c = search counted-more
