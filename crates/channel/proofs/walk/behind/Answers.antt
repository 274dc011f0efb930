-- `channel::walk::behind` meets its contract. Assumes nothing.
use Prim.Native.Nat.{◌+◌, ◌≤◌}
use lib.ListN.{length}
use native.Mathlib.Omega.{arith}
use Rattle.channel.proofs.Find.{days-room, quantity-room, behind-days, behind-quantity, behind-none}
use Rattle.channel.proofs.walk.behind.Goals as goal

pub overflow_add-result : goal.overflow_add-result
overflow_add-result c = let r : c.in-Days.e + 2 ≤ length c.args.file.now = search days-room in omega arith

pub overflow_add-result-in-Quantity : goal.overflow_add-result-in-Quantity
overflow_add-result-in-Quantity c = let r : c.in-Quantity.e + 2 ≤ length c.args.file.now = search quantity-room in omega arith

pub returns-in-Days : goal.returns-in-Days
returns-in-Days c = search behind-days

pub returns-in-Quantity : goal.returns-in-Quantity
returns-in-Quantity c = search behind-quantity

pub returns-in_default : goal.returns-in_default
returns-in_default c = search behind-none
