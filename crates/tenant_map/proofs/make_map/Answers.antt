-- `tenant_map::make_map` meets its contract. Assumes nothing.
use Rattle.tenant_map.proofs.Changes.{make-short, make-done}
use Rattle.tenant_map.proofs.make_map.Goals as goal

pub returns-then-memory-lt-BYTES : goal.returns-then-memory-lt-BYTES
returns-then-memory-lt-BYTES c = search make-short

pub returns : goal.returns
returns c = search make-done
