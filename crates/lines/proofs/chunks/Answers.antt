-- `lines::chunks` meets its contract. Assumes nothing.
use Rattle.lines.proofs.Passes.{passes}
use Rattle.lines.proofs.chunks.Goals as goal

pub returns-then-not-all_plain : goal.returns-then-not-all_plain
returns-then-not-all_plain c = search passes

pub loop-i-preserved : goal.loop-i-preserved
loop-i-preserved c = rw c.from-commas.ensures (search passes)

pub returns : goal.returns
returns c = search passes
