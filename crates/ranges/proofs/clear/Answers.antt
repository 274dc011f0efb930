-- `ranges::clear` meets its contract: what is left of the lists at j decides what all behind i decide (`Clearing`). Assumes nothing.
use Rattle.ranges.proofs.Checks.{clearing-none, clearing-more, clearing-stops, clearing-all}
use native.Mathlib.Omega.{arith}
use Rattle.ranges.proofs.clear.Goals as goal

pub loop-j-init : goal.loop-j-init
loop-j-init c = clearing-none _ _ _ _ _ _ c.requires.1 (omega arith)

pub returns-then-not-apart : goal.returns-then-not-apart
returns-then-not-apart c = search clearing-stops

pub loop-j-preserved : goal.loop-j-preserved
loop-j-preserved c = search clearing-more

pub returns : goal.returns
returns c = search clearing-all
