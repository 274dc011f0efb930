-- `channel_shares::weight_of` meets its contract. Assumes nothing.
use Rattle.channel_shares.proofs.Weighs.{weighs-on, counts-on, weighs-off, counts-off}
use borrow.Author.Rules.{rules}
use Rattle.channel_shares.proofs.weight_of.Goals as goal

pub returns-then-same_capitals : goal.returns-then-same_capitals
returns-then-same_capitals c = record { counts = search counts-on; weighs = search weighs-on; light = search rules }

pub returns-else-same_capitals : goal.returns-else-same_capitals
returns-else-same_capitals c = record { counts = search counts-off; weighs = search weighs-off; light = search rules }
