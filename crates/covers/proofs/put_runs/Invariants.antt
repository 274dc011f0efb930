-- `covers::put_runs` meets its contract. Assumes nothing.
use Prim.Native.Nat.{◌-◌, ◌≤◌}
use Rattle.covers.specs.Cover.{cover_from}
use Rattle.fit.specs.Tags.{marks_from}
use Rattle.format.specs.Day.{five}
use Rattle.ground.proofs.Room.{Left}
use Rattle.covers.proofs.put_runs.Given as goal

abbrev pub invariant-loop-i : goal.invariant-loop-i
invariant-loop-i l = (l.i ≤ l.n) × Left l.initial.room l.at (cover_from (marks_from (five l.flags l.methods l.reasons l.starts l.lengths) l.text) l.n 0) l.room l.p (cover_from (marks_from (five l.flags l.methods l.reasons l.starts l.lengths) l.text) l.n l.i)

abbrev pub decreases-loop-i : goal.decreases-loop-i
decreases-loop-i l = l.n - l.i
