-- `channel_rows::placed` meets its contract. Assumes nothing.
use Prim.Native.Nat.{◌+◌, ◌≤◌}
use lib.ListN.{length}
use native.Mathlib.Omega.{arith}
use Rattle.channel.proofs.Find.{days-room}
use Rattle.channel_rows.proofs.Rows.{placed-days, placed-quantity, placed-missing}
use Rattle.channel_rows.proofs.placed.Goals as goal

pub overflow_add-e : goal.overflow_add-e
overflow_add-e c = let r : c.in-Days.e + 2 ≤ length c.args.file.now = search days-room in omega arith

pub days_from-requires : goal.days_from-requires
days_from-requires c = search days-room

pub returns-in-Days : goal.returns-in-Days
returns-in-Days c = search placed-days

pub returns-in-Quantity : goal.returns-in-Quantity
returns-in-Quantity c = search placed-quantity

pub returns-in_default : goal.returns-in_default
returns-in_default c = search placed-missing
