-- `outputs::are_fit` meets its contract. Assumes nothing.
use Rattle.outputs.proofs.Walks.{Asked, given_from}
use Rattle.tenants.specs.Outputs.{fit_output}
use Rattle.outputs.proofs.are_fit.Given as goal

abbrev pub invariant-loop-i : goal.invariant-loop-i
invariant-loop-i l = Asked fit_output (given_from l.keys l.shares) l.i
