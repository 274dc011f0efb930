-- `named::is_channel` meets its contract. Assumes nothing.
use Rattle.named.proofs.Search.{channel-no, channel-is}
use Rattle.named.proofs.is_channel.Goals as goal

pub returns-then-same_letters : goal.returns-then-same_letters
returns-then-same_letters c = search channel-is

pub returns-else-same_letters : goal.returns-else-same_letters
returns-else-same_letters c = search channel-no
