-- `shares::before` meets its contract. Assumes nothing.
use Prim.Native.Nat.{◌≤◌, ◌+◌, ◌-◌}
use lib.ListN.{length, drop, length-take, length-drop}
use Rattle.ground.proofs.Lists.{part-long}
use Rattle.shares.proofs.Loops.{before-is}
use native.Mathlib.Omega.{arith}
use Rattle.shares.proofs.before.Goals as goal

pub slice_bounds-lower-end : goal.slice_bounds-lower-end
slice_bounds-lower-end c = let h : c.args.i ≤ length c.args.rs.now = omega arith in search part-long

pub overflow_add-result : goal.overflow_add-result
overflow_add-result c = omega (arith, length-take c.args.i c.args.rs.now, length-drop (c.args.i + 1) c.args.rs.now, length-take (length c.args.rs.now - (c.args.i + 1)) (drop (c.args.i + 1) c.args.rs.now))

pub returns : goal.returns
returns c = search before-is
