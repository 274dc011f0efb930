-- `named::has_key` meets its contract. Assumes nothing.
use Rattle.named.proofs.Search.{key-no, key-dated}
use Rattle.named.proofs.has_key.Goals as goal

pub returns-then-is_channel : goal.returns-then-is_channel
returns-then-is_channel c = search key-dated

pub returns-else-is_channel : goal.returns-else-is_channel
returns-else-is_channel c = search key-no
