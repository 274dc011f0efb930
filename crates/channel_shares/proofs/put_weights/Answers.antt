-- `channel_shares::put_weights` meets its contract. Assumes nothing.
use lib.ListN.{get_or}
use Prim.Native.Nat.{◌≤◌}
use Rattle.channel_shares.proofs.Weighs.{weighing-none, weighing-more, weighing-few, weighing-light, weighed-outputs, weighed-shares, weighed-all}
use native.Mathlib.Omega.{arith}
use Rattle.channel_shares.proofs.put_weights.Goals as goal

pub loop-i-init : goal.loop-i-init
loop-i-init c = search weighing-none

pub weight_of-w-requires : goal.weight_of-w-requires
weight_of-w-requires c = omega (arith, c.type_inv.shares c.loop-i.i)

pub overflow_add-outputs : goal.overflow_add-outputs
overflow_add-outputs c = search weighing-few

pub overflow_add-sum : goal.overflow_add-sum
overflow_add-sum c = let h : get_or c.args.shares.now c.loop-i.i 0 ≤ 65535 = omega (arith, c.type_inv.shares c.loop-i.i) in search weighing-light

pub loop-i-preserved : goal.loop-i-preserved
loop-i-preserved c = search weighing-more

pub returns : goal.returns
returns c = record { outputs = search weighed-outputs; shares = search weighed-shares; weights = search weighed-all }
