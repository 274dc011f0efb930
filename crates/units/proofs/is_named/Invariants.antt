-- `units::is_named` meets its contract. Assumes nothing.
use Rattle.units.proofs.Names.{Spelt}
use Rattle.units.proofs.is_named.Given as goal

abbrev pub invariant-loop-i : goal.invariant-loop-i
invariant-loop-i l = Spelt l.unit l.f l.i
