-- `seeking::find_slot` meets its contract. Assumes nothing.
use Rattle.entries.specs.Keys.{key}
use Rattle.seeking.proofs.Seeks.{Sought}
use Rattle.seeking.proofs.find_slot.Given as goal

abbrev pub invariant-loop-i : goal.invariant-loop-i
invariant-loop-i l = Sought l.memory l.h (key l.nmi l.suffix l.date) l.i
