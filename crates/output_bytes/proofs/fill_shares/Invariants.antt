-- `output_bytes::fill_shares` meets its contract. Assumes nothing.
use Rattle.output_bytes.proofs.Entries.{Shares}
use Rattle.output_bytes.proofs.fill_shares.Given as goal

abbrev pub invariant-loop-i : goal.invariant-loop-i
invariant-loop-i l = Shares l.entries l.initial.shares l.shares l.i
