-- `map_counts::is_used` meets its contract. Assumes nothing.
use Rattle.map_counts.proofs.Outputs.{used-is}
use Rattle.map_counts.proofs.is_used.Goals as goal

pub returns : goal.returns
returns c = search used-is
