-- `walker::found_at` meets its contract: a law for each way out. Assumes nothing.
use Prim.Native.Nat.{◌+◌, ◌≤◌}
use mathlib.Core.Path.{refl}
use native.Mathlib.Omega.{arith}
use lib.ListN.{length}
use Rattle.lines.proofs.Ends.{line-room}
use Rattle.walker.proofs.Handed.{none-behind, none_here, one-here}
use Rattle.walker.proofs.found_at.Goals as goal

pub returns-then-n-at : goal.returns-then-n-at
returns-then-n-at c = (search none-behind, refl)

pub returns-then-found-n : goal.returns-then-found-n
returns-then-found-n c = (search none_here, refl)

pub overflow_add-to : goal.overflow_add-to
overflow_add-to c = let r : c.scan-found.result.end + 2 ≤ length c.args.file.now = search line-room in omega (arith, r)

pub returns : goal.returns
returns c = (search one-here, refl)
