-- `rows::rule_550` meets its contract. Assumes nothing.
use Rattle.format.specs.Records.{row550}
use Rattle.rows.proofs.Rows.{off-row}
use mathlib.Core.Path.{refl}
use native.Mathlib.Omega.{arith}
use Rattle.rows.proofs.rule_550.Goals as goal

pub returns-in_default : goal.returns-in_default
returns-in_default c = off-row row550 c.args.i (λ h. omega arith) refl
