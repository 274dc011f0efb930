-- `own_keys::are_all_own` meets its contract. Assumes nothing.
use Rattle.store.proofs.Walks.{pairs-none, pairs-more, pairs-stop, pairs-all}
use Rattle.own_keys.proofs.are_all_own.Goals as goal

pub loop-i-init : goal.loop-i-init
loop-i-init c = search pairs-none

pub returns-then-not-is_free_or_own : goal.returns-then-not-is_free_or_own
returns-then-not-is_free_or_own c = search pairs-stop

pub loop-i-preserved : goal.loop-i-preserved
loop-i-preserved c = search pairs-more

pub returns : goal.returns
returns c = search pairs-all
