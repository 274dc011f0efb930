-- `output_bytes::fill_keys` meets its contract. Assumes nothing.
use Rattle.output_bytes.proofs.Entries.{Keys}
use Rattle.output_bytes.proofs.fill_keys.Given as goal

abbrev pub invariant-loop-i : goal.invariant-loop-i
invariant-loop-i l = Keys l.entries l.initial.keys l.keys l.i
