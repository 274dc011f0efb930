-- `used_map::is_used` meets its contract: past 64 bits every slot is free (`used-past`), and the others are looked at under the mask 1 (`tested`). Assumes nothing.
use Rattle.used_map.proofs.Maps.{past, tested}
use Rattle.used_map.proofs.Slots.{used-past}
use borrow.Author.Rules.{rules}
use borrow.Author.Tests.{le-ltb}
use mathlib.Core.Path.{sym, ◌∙◌}
use Rattle.used_map.proofs.is_used.Goals as goal

pub returns-then-s-lt-SLOTS : goal.returns-then-s-lt-SLOTS
returns-then-s-lt-SLOTS c = tested _ _

pub returns-else-s-lt-SLOTS : goal.returns-else-s-lt-SLOTS
returns-else-s-lt-SLOTS c = le-ltb _ _ (search rules) ∙ sym (used-past _ _ (past _ _ c.ranges.map.fits (search rules)))
