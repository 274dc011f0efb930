-- `checking::tour::check_and_note` meets its contract. Assumes nothing.
use Prim.Native.Nat.{◌-◌}
use lib.ListN.{length}
use Rattle.checking.specs.Tour.{Touring}
use Rattle.checking.proofs.tour.check_and_note.Given as goal

abbrev pub invariant-loop-st : goal.invariant-loop-st
invariant-loop-st l = Touring l.file l.day l.channel l.st l.t

abbrev pub decreases-loop-st : goal.decreases-loop-st
decreases-loop-st l = length l.file - l.t.at
