-- `lines::pieces::end_singly` meets its contract. Assumes nothing.
use Rattle.lines.proofs.Steps.{singly}
use lib.ListN.{length}
use mathlib.Core.Path.{◌≡◌}
use native.Mathlib.Omega.{arith}
use Rattle.lines.proofs.pieces.end_singly.Goals as goal

pub loop-i-init : goal.loop-i-init
loop-i-init c = search singly

pub returns-then-t-i-eq44 : goal.returns-then-t-i-eq44
returns-then-t-i-eq44 c = search singly

pub loop-i-preserved : goal.loop-i-preserved
loop-i-preserved c = search singly

pub returns : goal.returns
returns c =
    let e : c.loop-i.i ≡ length c.args.t.now = omega arith in
    rw (← e) (search singly)
