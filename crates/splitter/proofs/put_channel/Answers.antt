-- `splitter::put_channel` meets its contract. Assumes nothing.
use Rattle.splitter.proofs.Ways.{nmi-fits, suffix-fits, channel-put}
use Rattle.splitter.proofs.put_channel.Goals as goal

pub put_capitals-requires : goal.put_capitals-requires
put_capitals-requires c = search nmi-fits

pub put_capitals-requires-2 : goal.put_capitals-requires-2
put_capitals-requires-2 c = search suffix-fits

pub returns : goal.returns
returns c = search channel-put
