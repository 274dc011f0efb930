-- `leaf::digits::digits` meets its contract. Assumes nothing.
use Rattle.ground.proofs.Decimal.{Read}
use Rattle.leaf.proofs.digits.digits.Given as goal

abbrev pub invariant-loop-b : goal.invariant-loop-b
invariant-loop-b l = Read l.f l.v l.b-index
