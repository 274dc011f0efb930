-- `channel_shares::put_weights` meets its contract. Assumes nothing.
use Rattle.channel_shares.proofs.Weighs.{Weighing}
use Rattle.channel_shares.proofs.put_weights.Given as goal

abbrev pub invariant-loop-i : goal.invariant-loop-i
invariant-loop-i l = Weighing l.channel l.keys l.shares l.weights l.outputs l.sum l.i
