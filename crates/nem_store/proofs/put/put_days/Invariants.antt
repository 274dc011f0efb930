use Rattle.std.proofs.Common.{◌-◌}
use Rattle.format.specs.File.{IsAccepted}
use Rattle.day.specs.Places.{DayAhead}
use Rattle.nem_store.proofs.put.put_days.Given as goal

abbrev pub invariant-loop-k : goal.invariant-loop-k
invariant-loop-k g l = IsAccepted l.file × DayAhead l.file l.k l.from
