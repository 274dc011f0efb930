-- `day::fields::skip` meets its contract. Assumes nothing.
use Rattle.format.specs.Cut.{fields}
use Rattle.ground.specs.Lists.{part}
use Rattle.lines.specs.Places.{Rest}
use Rattle.day.proofs.fields.skip.Given as goal

abbrev pub invariant-loop : goal.invariant-loop
invariant-loop l = Rest l.file (fields (part l.file l.a l.e)) l.a l.counter l.x l.e
