-- `used_map::set_used` meets its contract: the map or the bit is the map with the slot taken (`or-taken`). Assumes nothing.
use Rattle.used_map.proofs.Maps.{or-taken}
use Rattle.used_map.proofs.set_used.Goals as goal

pub returns : goal.returns
returns c = or-taken _ _ c.bit.ensures
