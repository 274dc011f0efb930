-- `opening::open_store` meets its contract. Assumes nothing.
use Rattle.opening.proofs.Tests.{too_few, opened, not_opened}
use Rattle.opening.proofs.open_store.Goals as goal

pub returns-then-memory-lt32 : goal.returns-then-memory-lt32
returns-then-memory-lt32 c = search too_few

pub returns-then-is_store : goal.returns-then-is_store
returns-then-is_store c = search opened

pub returns : goal.returns
returns c = search not_opened
