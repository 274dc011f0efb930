-- `versions::highest_on` meets its contract. Assumes nothing.
use Prim.Native.Nat.{◌+◌, ◌-◌}
use mathlib.Core.Path.{◌≡◌}
use native.Mathlib.Omega.{arith}
use Rattle.versions.proofs.Dates.{above-none, above-found, above_more, above-all}
use Rattle.versions.proofs.highest_on.Goals as goal

pub loop-i-init : goal.loop-i-init
loop-i-init c = search above-none

pub returns-then-first_date-date : goal.returns-then-first_date-date
returns-then-first_date-date c = let z : c.loop-i.i - 1 + 1 ≡ c.loop-i.i = omega arith in rw z (search above-found)

pub loop-i-preserved : goal.loop-i-preserved
loop-i-preserved c = search above_more

pub returns : goal.returns
returns c = search above-all
