-- `putting::put_there` meets its contract. Assumes nothing.
use Rattle.putting.proofs.Enters.{put-so}
use Rattle.putting.proofs.put_there.Goals as goal

pub returns : goal.returns
returns c = search put-so
