-- `rows::rule_250` meets its contract. Assumes nothing.
use Rattle.format.specs.Records.{row250}
use Rattle.rows.proofs.Rows.{off-row, past-arms}
use mathlib.Core.Path.{◌≡◌, refl}
use native.Mathlib.Omega.{arith}
use Rattle.rows.proofs.rule_250.Goals as goal

pub returns-in-18 : goal.returns-in-18
returns-in-18 c = let h : c.args.i ≡ 18 = omega arith in rw h

pub returns-in_default : goal.returns-in_default
returns-in_default c = off-row (row250 c.args.d) c.args.i (λ h. past-arms 22 c.args.i c.in_default.in_default-own.rest h) refl
