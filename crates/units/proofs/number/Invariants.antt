-- `units::number` meets its contract. Assumes nothing.
use Rattle.units.proofs.Names.{Tried}
use Rattle.units.proofs.number.Given as goal

abbrev pub invariant-loop-u : goal.invariant-loop-u
invariant-loop-u l = Tried l.f l.u
