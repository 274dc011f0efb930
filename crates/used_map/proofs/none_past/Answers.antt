-- `used_map::none_past` meets its contract: past 64 bits there is none. Assumes nothing.
use Rattle.used_map.proofs.Maps.{past, none-when-past}
use Rattle.store.specs.Used.{none_past}
use borrow.Author.Rules.{rules}
use borrow.Author.Tests.{le-leb}
use mathlib.Core.Path.{refl, ◌∙◌}
use Rattle.used_map.proofs.none_past.Goals as goal

pub returns-then-slots-ge-SLOTS : goal.returns-then-slots-ge-SLOTS
returns-then-slots-ge-SLOTS c = le-leb _ _ (search rules) ∙ none-when-past _ _ (past _ _ c.ranges.map.fits (search rules))

pub returns-else-slots-ge-SLOTS : goal.returns-else-slots-ge-SLOTS
unfolding none_past
returns-else-slots-ge-SLOTS c = refl
