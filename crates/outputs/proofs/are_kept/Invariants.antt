-- `outputs::are_kept` meets its contract. Assumes nothing.
use Rattle.outputs.proofs.Walks.{Asked, entries_from}
use Rattle.tenants.specs.Outputs.{is_kept}
use Rattle.outputs.proofs.are_kept.Given as goal

abbrev pub invariant-loop-i : goal.invariant-loop-i
invariant-loop-i l = Asked is_kept (entries_from l.entries) l.i
