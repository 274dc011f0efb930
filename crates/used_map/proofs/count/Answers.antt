-- `used_map::count` meets its contract: the ones of the map are the slots in use (`ones-held`). Assumes nothing.
use Rattle.used_map.proofs.Slots.{ones-held}
use Rattle.used_map.proofs.count.Goals as goal

pub returns : goal.returns
returns c = ones-held c.args.map c.ranges.map.fits
