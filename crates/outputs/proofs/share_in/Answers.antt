-- `outputs::share_in` meets its contract. Assumes nothing.
use mathlib.Core.Path.{refl}
use native.Mathlib.Omega.{arith}
use Rattle.outputs.proofs.Walks.{two_bytes}
use Rattle.outputs.proofs.share_in.Goals as goal

pub returns : goal.returns
returns c = omega (arith, c.from_le_bytes.ensures, two_bytes c.args.entry.now c.requires refl refl)
