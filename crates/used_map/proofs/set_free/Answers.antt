-- `used_map::set_free` meets its contract: the map and all but the bit is the map with the slot freed (`and-freed`); past 64 bits there is no slot in use. Assumes nothing.
use Rattle.used_map.proofs.Maps.{past, freed-past, and-freed}
use borrow.Author.Rules.{rules}
use Rattle.used_map.proofs.set_free.Goals as goal

pub returns-then-s-lt-SLOTS : goal.returns-then-s-lt-SLOTS
returns-then-s-lt-SLOTS c = and-freed _ _ c.ranges.map.fits (search rules) c.bit.ensures

pub returns-else-s-lt-SLOTS : goal.returns-else-s-lt-SLOTS
returns-else-s-lt-SLOTS c = freed-past _ _ (past _ _ c.ranges.map.fits (search rules))
