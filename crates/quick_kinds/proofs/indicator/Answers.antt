-- `quick_kinds::indicator` meets its contract. Assumes nothing.
use Rattle.quick_kinds.proofs.Indicators.{kind-told}
use Rattle.quick_kinds.proofs.indicator.Goals as goal

pub returns-then-k-gt0 : goal.returns-then-k-gt0
returns-then-k-gt0 c = search kind-told
