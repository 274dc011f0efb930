-- `heads::put_varied` meets its contract. Assumes nothing.
use Rattle.ground.proofs.Room.{put_then}
use Rattle.heads.proofs.put_varied.Goals as goal

pub returns : goal.returns
returns c = put_then c.put_bytes-p.ensures c.put_times.ensures
