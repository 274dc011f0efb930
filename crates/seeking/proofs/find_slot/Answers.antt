-- `seeking::find_slot` meets its contract. Assumes nothing.
use Rattle.seeking.proofs.Seeks.{sought-none, sought-here, sought-more, sought-all}
use Rattle.seeking.proofs.find_slot.Goals as goal

pub loop-i-init : goal.loop-i-init
loop-i-init c = search sought-none

pub returns-then-has_key : goal.returns-then-has_key
returns-then-has_key c = search sought-here

pub loop-i-preserved : goal.loop-i-preserved
loop-i-preserved c = search sought-more

pub returns : goal.returns
returns c = search sought-all
