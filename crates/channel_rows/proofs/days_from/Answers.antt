-- `channel_rows::days_from` meets its contract. Assumes nothing.
use native.Mathlib.Omega.{arith}
use Rattle.lines.proofs.Ends.{line-room}
use Rattle.day.proofs.Find.{line-less}
use Rattle.channel_rows.proofs.Rows.{days-end, days-stop, days-day, days-pass, days-few, days-fewer}
use Rattle.channel_rows.proofs.days_from.Goals as goal

pub returns-then-e-file : goal.returns-then-e-file
returns-then-e-file c = search days-end

pub returns-then-kind-eq200 : goal.returns-then-kind-eq200
returns-then-kind-eq200 c = search days-stop

pub overflow_add-days : goal.overflow_add-days
overflow_add-days c = omega arith

pub loop-start-smaller-then-kind-eq300 : goal.loop-start-smaller-then-kind-eq300
loop-start-smaller-then-kind-eq300 c = search line-less

pub loop-start-preserved-then-kind-eq300 : goal.loop-start-preserved-then-kind-eq300
loop-start-preserved-then-kind-eq300 c = (search line-room, search days-few, search days-day)

pub loop-start-smaller : goal.loop-start-smaller
loop-start-smaller c = search line-less

pub loop-start-preserved : goal.loop-start-preserved
loop-start-preserved c = (search line-room, search days-fewer, search days-pass)
