-- `day::fields::fill_values` meets its contract. Assumes nothing.
use Prim.Native.Nat.{◌<◌}
use Rattle.day.proofs.Values.{value_on, values_all}
use Rattle.lines.proofs.Cuts.{rest-next}
use lib.ListN.{length-set}
use native.Mathlib.Omega.{arith}
use Rattle.day.proofs.fields.fill_values.Goals as goal

pub loop-value-preserved : goal.loop-value-preserved
loop-value-preserved c =
    let h : c.loop-value.value-index < c.args.n = omega arith in
    (simp length-set (omega arith), search rest-next, search value_on)

pub returns-clause-is : goal.returns-clause-is
returns-clause-is c = values_all _ _ _ _ _ (omega arith) (omega arith) c.loop-value.invariant.2
