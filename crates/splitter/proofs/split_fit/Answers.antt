-- `splitter::split_fit` meets its contract. Assumes nothing.
use Rattle.splitter.proofs.Ways.{channel-told, shared-bad, shared-on}
use borrow.Author.Rules.{rules}
use Rattle.splitter.proofs.split_fit.Goals as goal

pub returns-then-not-is_channel : goal.returns-then-not-is_channel
returns-then-not-is_channel c = search shared-bad

pub put_channel-requires : goal.put_channel-requires
put_channel-requires c = (search channel-told, search rules)

pub returns : goal.returns
returns c = search shared-on
