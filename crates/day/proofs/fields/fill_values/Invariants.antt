-- `day::fields::fill_values` meets its contract. Assumes nothing.
use Prim.Native.Nat.{◌-◌}
use Rattle.day.specs.Places.{values_from}
use Rattle.format.specs.Cut.{fields}
use Rattle.ground.specs.Lists.{part}
use Rattle.lines.specs.Places.{Rest}
use lib.ListN.{length}
use lib.Seq.{sets}
use mathlib.Core.Path.{◌≡◌}
use Rattle.day.proofs.fields.fill_values.Given as goal

abbrev pub invariant-loop-value : goal.invariant-loop-value
invariant-loop-value l =
    (length l.value-items ≡ l.n)
    × Rest l.file (fields (part l.file l.a l.e)) l.a l.value-index l.x l.e
    × (sets l.value-items l.value-index (values_from (l.n - l.value-index) l.value-index (fields (part l.file l.a l.e))) ≡ sets l.initial.value-items 0 (values_from l.n 0 (fields (part l.file l.a l.e))))
