use Rattle.std.proofs.Common.{◌-◌}
use Rattle.format.specs.File.{IsAccepted}
use Rattle.day.specs.Places.{DayAhead}
use Rattle.nem_csv.proofs.intervals.show.Given as goal

abbrev pub invariant-loop-k : goal.invariant-loop-k
invariant-loop-k g l = IsAccepted l.file × DayAhead l.file l.k l.from
