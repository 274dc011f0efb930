-- `kept_bytes::used_end` meets its contract. Assumes nothing.
use Rattle.kept_bytes.proofs.Ways.{used-is}
use Rattle.kept_bytes.proofs.used_end.Goals as goal

pub returns : goal.returns
returns c = search used-is
