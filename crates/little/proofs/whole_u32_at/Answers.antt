-- `little::whole_u32_at` meets its contract. Assumes nothing.
use Rattle.little.proofs.Numbers.{four_bytes}
use mathlib.Core.Path.{refl}
use native.Mathlib.Omega.{arith}
use Rattle.little.proofs.whole_u32_at.Goals as goal

pub returns : goal.returns
returns c = omega (arith, c.from_le_bytes.ensures, four_bytes c.args.m.now c.args.at c.requires refl refl refl refl)
