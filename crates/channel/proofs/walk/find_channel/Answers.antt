-- `channel::walk::find_channel` meets its contract. Assumes nothing.
use Prim.Native.Nat.{◌+◌, ◌≤◌}
use Rattle.channel.proofs.Find.{finds}
use Rattle.day.proofs.Find.{line-less}
use Rattle.lines.proofs.Ends.{line-room}
use borrow.Author.Rules.{rules}
use lib.ListN.{length}
use native.Mathlib.Omega.{arith}
use Rattle.channel.proofs.walk.find_channel.Goals as goal

pub returns-then-e-file : goal.returns-then-e-file
returns-then-e-file c = record { is = search finds; inside = search rules }

pub overflow_add-at : goal.overflow_add-at
overflow_add-at c = let r : c.line_end-e.result + 2 ≤ length c.args.file.now = search line-room in omega arith

pub returns-then-left-eq0 : goal.returns-then-left-eq0
returns-then-left-eq0 c = record { is = search finds; inside = (search rules, search line-room) }

pub overflow_sub-left : goal.overflow_sub-left
overflow_sub-left c = omega arith

pub loop-channel-smaller-then-k-eq200 : goal.loop-channel-smaller-then-k-eq200
loop-channel-smaller-then-k-eq200 c = search line-less

pub loop-channel-preserved-then-k-eq200 : goal.loop-channel-preserved-then-k-eq200
loop-channel-preserved-then-k-eq200 c = (search line-room, search finds)

pub returns-then-left-eq0-2 : goal.returns-then-left-eq0-2
returns-then-left-eq0-2 c = record { is = search finds; inside = (search rules, search line-room) }

pub overflow_sub-left-then-k-eq250 : goal.overflow_sub-left-then-k-eq250
overflow_sub-left-then-k-eq250 c = omega arith

pub loop-channel-smaller-then-k-eq250 : goal.loop-channel-smaller-then-k-eq250
loop-channel-smaller-then-k-eq250 c = search line-less

pub loop-channel-preserved-then-k-eq250 : goal.loop-channel-preserved-then-k-eq250
loop-channel-preserved-then-k-eq250 c = (search line-room, search finds)

pub loop-channel-smaller : goal.loop-channel-smaller
loop-channel-smaller c = search line-less

pub loop-channel-preserved : goal.loop-channel-preserved
loop-channel-preserved c = (search line-room, search finds)
