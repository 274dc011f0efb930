-- `sums::add_values` meets its contract. Assumes nothing.
use Prim.Native.Nat.{◌+◌, ◌-◌, ◌*◌}
use Rattle.day.specs.Places.{values_from}
use Rattle.format.specs.Cut.{fields}
use Rattle.ground.specs.Lists.{part, sum}
use Rattle.lines.specs.Places.{Rest}
use mathlib.Core.Path.{◌≡◌}
use Rattle.sums.proofs.add_values.Given as goal

abbrev pub invariant-loop : goal.invariant-loop
invariant-loop l =
    Rest l.file (fields (part l.file l.a l.e)) l.a (16 * l.counter) l.x l.e
    × (l.acc + sum (values_from (l.n - 16 * l.counter) (16 * l.counter) (fields (part l.file l.a l.e))) ≡ l.before + sum (values_from l.n 0 (fields (part l.file l.a l.e))))
