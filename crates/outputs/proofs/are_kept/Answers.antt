-- `outputs::are_kept` meets its contract. Assumes nothing.
use Rattle.outputs.proofs.Walks.{kept-none, kept_more, kept-stops, kept-each}
use Rattle.outputs.proofs.are_kept.Goals as goal

pub loop-i-init : goal.loop-i-init
loop-i-init c = search kept-none

pub returns-then-not-is_kept : goal.returns-then-not-is_kept
returns-then-not-is_kept c = search kept-stops

pub loop-i-preserved : goal.loop-i-preserved
loop-i-preserved c = search kept_more

pub returns : goal.returns
returns c = search kept-each
