-- `lines::bytewise` meets its contract. Assumes nothing.
use Rattle.lines.proofs.Passes.{passes}
use lib.ListN.{length}
use mathlib.Core.Path.{◌≡◌}
use native.Mathlib.Omega.{arith}
use Rattle.lines.proofs.bytewise.Goals as goal
use Rattle.lines.proofs.bytewise.Goals.{then-b-eq44, else-b-eq44}

pub returns-then-not-is_plain : goal.returns-then-not-is_plain
returns-then-not-is_plain c = search (passes, arith)

pub loop-stop-preserved : goal.loop-stop-preserved
loop-stop-preserved c =
    elim c.if-b-eq44.branch [ then-b-eq44 w ↦ rw w.commas-is (search passes) | else-b-eq44 w ↦ rw w.commas-is (search passes) ]

pub returns : goal.returns
returns c =
    let e : c.loop-stop.stop ≡ length c.args.s.now = omega arith in
    rw (← e) (search (passes, arith))
