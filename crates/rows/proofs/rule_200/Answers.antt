-- `rows::rule_200` meets its contract. Assumes nothing.
use Rattle.format.specs.Records.{row200}
use Rattle.rows.proofs.Rows.{off-row, past-arms}
use mathlib.Core.Path.{refl}
use Rattle.rows.proofs.rule_200.Goals as goal

pub returns-in_default : goal.returns-in_default
returns-in_default c = off-row row200 c.args.i (λ h. past-arms 9 c.args.i c.in_default.in_default-own.rest h) refl
