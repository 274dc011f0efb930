-- `month_room::fault` meets its contract. Assumes nothing.
use Prim.Native.Nat.{◌≤◌, ◌+◌, ◌-◌}
use Rattle.day.specs.Places.{DayAhead}
use Rattle.format.specs.Day.{days_of}
use Rattle.month_room.specs.Room.{fault_of}
use lib.ListN.{drop}
use mathlib.Core.Path.{◌≡◌}
use Rattle.month_room.proofs.fault.Given as goal

abbrev pub invariant-loop-found : goal.invariant-loop-found
invariant-loop-found l = (l.first + l.i ≤ l.last) × DayAhead l.file (l.first + l.i) l.at × (fault_of (l.last + 1 - (l.first + l.i)) (drop (l.first + l.i) (days_of l.file)) l.long (l.places - l.i) ≡ fault_of (l.last + 1 - l.first) (drop l.first (days_of l.file)) l.room l.places)

abbrev pub decreases-loop-found : goal.decreases-loop-found
decreases-loop-found l = l.last - (l.first + l.i)
