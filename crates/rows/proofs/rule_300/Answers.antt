-- `rows::rule_300` meets its contract. Assumes nothing.
use Rattle.rows.proofs.Rows.{row-past}
use Rattle.rows.proofs.Rows.{row-value, row-behind}
use mathlib.Core.Path.{◌≡◌}
use native.Mathlib.Omega.{arith}
use Rattle.rows.proofs.rule_300.Goals as goal

pub returns-then-i-lt1 : goal.returns-then-i-lt1
returns-then-i-lt1 c = let h : c.args.i ≡ 0 = omega arith in rw h

pub returns-then-i-lt2 : goal.returns-then-i-lt2
returns-then-i-lt2 c = let h : c.args.i ≡ 1 = omega arith in rw h

pub returns-then-i-n : goal.returns-then-i-n
returns-then-i-n c = search row-value

pub returns-in-2 : goal.returns-in-2
returns-in-2 c = search row-behind

pub returns-in-3 : goal.returns-in-3
returns-in-3 c = search row-behind

pub returns-in-4 : goal.returns-in-4
returns-in-4 c = search row-behind

pub returns-in-5 : goal.returns-in-5
returns-in-5 c = search row-behind

pub returns-in-6 : goal.returns-in-6
returns-in-6 c = search row-behind

pub returns-in_default : goal.returns-in_default
returns-in_default c = row-past c.args.n c.args.d c.args.i (omega arith)
