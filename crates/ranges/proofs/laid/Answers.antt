-- `ranges::laid` meets its contract: what is left of the lists at i decides what the lists decide (`Laying`). Assumes nothing.
use Rattle.ranges.proofs.Checks.{laying-unlike, laying-none, laying-more, laying-outside, laying-over, laying-all}
use native.Mathlib.Omega.{arith}
use mathlib.Core.Path.{ap}
use mathlib.Core.Bool.{not}
use Rattle.ranges.proofs.laid.Goals as goal
use Rattle.ranges.proofs.laid.Goals.{then-not-inside-via-then-not-inside, then-not-inside-via-else-not-inside+then-not-clear}

pub returns-then-places-lengths : goal.returns-then-places-lengths
returns-then-places-lengths c = search laying-unlike

pub loop-i-init : goal.loop-i-init
loop-i-init c = search laying-none

pub returns-then-not-inside : goal.returns-then-not-inside
returns-then-not-inside c =
    elim c.then-not-inside.branch [
      | then-not-inside-via-then-not-inside w ↦
          laying-outside _ _ _ _ _ (omega arith) c.inside.ensures c.loop-i.invariant (ap not w.if-not-inside.true)
      | then-not-inside-via-else-not-inside+then-not-clear w ↦
          laying-over _ _ _ _ _ (omega arith) c.inside.ensures c.loop-i.invariant _ w.clear.ensures (ap not w.if-not-inside.false) (ap not w.if-not-clear.true)
    ]

pub loop-i-preserved : goal.loop-i-preserved
loop-i-preserved c = laying-more _ _ _ _ _ (omega arith) c.inside.ensures c.loop-i.invariant _ c.clear.ensures (ap not c.if-not-inside.false) (ap not c.if-not-clear.false)

pub returns : goal.returns
returns c = search laying-all
