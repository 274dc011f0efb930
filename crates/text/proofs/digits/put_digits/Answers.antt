-- `text::digits::put_digits` meets its contract. Assumes nothing.
use Rattle.text.proofs.Loops.{shown-none, shown-more, shown-all}
use Rattle.text.proofs.digits.put_digits.Goals as goal

pub loop-j-init : goal.loop-j-init
loop-j-init c = search shown-none

pub loop-j-preserved : goal.loop-j-preserved
loop-j-preserved c = search shown-more

pub returns : goal.returns
returns c = search shown-all
