-- `slots::put_offsets` meets its contract: the first i slots are written (`Writing`). Assumes nothing.
use Rattle.slots.proofs.Fields.{Writing}
use Rattle.slots.proofs.put_offsets.Given as goal

abbrev pub invariant-loop-i : goal.invariant-loop-i
invariant-loop-i l = Writing l.h l.map l.values l.initial.m l.m l.i
