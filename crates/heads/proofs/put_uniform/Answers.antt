-- `heads::put_uniform` meets its contract. Assumes nothing.
use Rattle.ground.proofs.Room.{put_then}
use Rattle.heads.proofs.Heads.{first-room, next-room}
use Rattle.heads.proofs.put_uniform.Goals as goal

pub put_mark-p-requires : goal.put_mark-p-requires
put_mark-p-requires c = (c.requires.0, search first-room)

pub put_times-requires : goal.put_times-requires
put_times-requires c = search next-room

pub returns : goal.returns
returns c = put_then c.put_mark-p.ensures c.put_times.ensures
