-- `sums::lumped` meets its contract. Assumes nothing.
use Prim.Native.Nat.{◌+◌, ◌*◌}
use mathlib.Core.Path.{◌≡◌}
use native.Mathlib.Omega.{arith}
use Rattle.sums.proofs.Sums.{adding-end, lump-on}
use Rattle.sums.proofs.lumped.Goals as goal

pub loop-i-preserved : goal.loop-i-preserved
loop-i-preserved c = search lump-on

pub returns : goal.returns
returns c = let e : c.args.x + 96 ≡ c.args.x + 6 * c.loop-i.i = omega arith in rw e (search adding-end)
