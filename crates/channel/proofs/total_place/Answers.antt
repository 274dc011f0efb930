-- `channel::total_place` meets its contract. Assumes nothing.
use Prim.Native.Nat.{◌+◌, ◌≤◌}
use lib.ListN.{length}
use native.Mathlib.Omega.{arith}
use Rattle.channel.proofs.Find.{days-order, days-room, days-end, quantity-order, quantity-end, channel-days, channel-quantity, channel-missing}
use borrow.Author.Rules.{rules}
use Rattle.channel.proofs.total_place.Goals as goal

pub quantity_of-requires : goal.quantity_of-requires
quantity_of-requires c = (search quantity-order, search quantity-end)

pub overflow_add-e : goal.overflow_add-e
overflow_add-e c = let r : c.in-Days.e + 2 ≤ length c.args.file.now = search days-room in omega arith

pub intervals_of-requires : goal.intervals_of-requires
intervals_of-requires c = (search days-order, search days-end)

pub add_days-requires : goal.add_days-requires
add_days-requires c = (search days-room, search rules)

pub returns-in_default : goal.returns-in_default
returns-in_default c = search channel-missing

pub returns-in-Quantity : goal.returns-in-Quantity
returns-in-Quantity c = search channel-quantity

pub returns-in-Days : goal.returns-in-Days
returns-in-Days c = search channel-days
