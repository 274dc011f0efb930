-- `words::lists::text_at` meets its contract. Assumes nothing.
use Rattle.words.proofs.Listed.{reached-first, reached-next, reached-is}
use Rattle.words.proofs.lists.text_at.Goals as goal

pub loop-init : goal.loop-init
loop-init c = search reached-first

pub loop-preserved : goal.loop-preserved
loop-preserved c = search reached-next

pub returns : goal.returns
returns c = search reached-is
