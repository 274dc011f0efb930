-- `field_texts::values::trim` meets its contract. Assumes nothing.
use Rattle.field_texts.proofs.Trimming.{Cut}
use Rattle.field_texts.proofs.values.trim.Given as goal

abbrev pub invariant-loop-places : goal.invariant-loop-places
invariant-loop-places l = Cut l.f l.places l.number
