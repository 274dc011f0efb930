-- `values::value_in_pass` meets its contract. Assumes nothing.
use Rattle.values.proofs.Fields.{taken_is, taken-small, taken-cut}
use native.Mathlib.Omega.{arith}
use Rattle.values.proofs.value_in_pass.Goals as goal

pub short_at-requires : goal.short_at-requires
short_at-requires c = (omega arith, omega arith)

pub returns-in-Some : goal.returns-in-Some
returns-in-Some c = search (taken_is, taken-small, taken-cut)
