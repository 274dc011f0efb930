-- `records::start_of` meets its contract. Assumes nothing.
use mathlib.Core.Path.{◌≡◌}
use Rattle.records.specs.Records.{record_start}
use Rattle.records.proofs.start_of.Given as goal

abbrev pub invariant-loop-before : goal.invariant-loop-before
invariant-loop-before l = record_start l.file l.place ≡ record_start l.file l.before
