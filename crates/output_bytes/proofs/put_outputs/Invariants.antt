-- `output_bytes::put_outputs` meets its contract. Assumes nothing.
use Rattle.output_bytes.proofs.Entries.{Given}
use Rattle.output_bytes.proofs.put_outputs.Given as goal

abbrev pub invariant-loop-i : goal.invariant-loop-i
invariant-loop-i l = Given l.initial.memory l.at l.keys l.shares l.memory l.i
