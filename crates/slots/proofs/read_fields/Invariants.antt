-- `slots::read_fields` meets its contract: the first i places are filled (`Filled`). Assumes nothing.
use Rattle.slots.proofs.Fields.{Filled}
use Rattle.slots.specs.Fields.{field_of}
use Rattle.slots.proofs.read_fields.Given as goal

abbrev pub invariant-loop-i : goal.invariant-loop-i
invariant-loop-i l = Filled (field_of l.m l.h l.map l.k) 64 l.out l.i
