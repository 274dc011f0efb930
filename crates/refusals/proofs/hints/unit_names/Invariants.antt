-- `refusals::hints::unit_names` meets its contract. Assumes nothing.
use Prim.Native.Nat.{◌-◌}
use lib.ListN.{length}
use Rattle.format.specs.Units.{units}
use Rattle.page.proofs.Listed.{Counted}
use Rattle.refusals.specs.Hints.{listed}
use Rattle.refusals.proofs.hints.unit_names.Given as goal

abbrev pub invariant-loop-page : goal.invariant-loop-page
invariant-loop-page l = Counted l.initial.page l.at listed (length units) l.page l.p l.unit

abbrev pub decreases-loop-page : goal.decreases-loop-page
decreases-loop-page l = length units - l.unit
