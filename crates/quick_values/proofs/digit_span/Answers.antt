-- `quick_values::digit_span` meets its contract. Assumes nothing.
use Rattle.quick_values.proofs.Spans.{far_none, far-on, far-stop, far-all}
use lib.ListN.{length}
use mathlib.Core.Path.{◌≡◌}
use native.Mathlib.Omega.{arith}
use Rattle.quick_values.proofs.digit_span.Goals as goal

ruleset laws = (far_none, far-on, far-stop, far-all)

pub loop-i-init : goal.loop-i-init
loop-i-init c = search laws

pub returns-then-not-is_digit : goal.returns-then-not-is_digit
returns-then-not-is_digit c = search laws

pub loop-i-preserved : goal.loop-i-preserved
loop-i-preserved c = search laws

pub returns-clause-is : goal.returns-clause-is
returns-clause-is c =
    let e : c.loop-i.i ≡ length c.args.f.now = omega arith in
    rw (← e) (search laws)
