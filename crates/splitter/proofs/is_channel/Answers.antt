-- `splitter::is_channel` meets its contract. Assumes nothing.
use Rattle.splitter.proofs.Ways.{no-nmi, with-nmi}
use Rattle.splitter.proofs.is_channel.Goals as goal

pub returns-then-not-nmi : goal.returns-then-not-nmi
returns-then-not-nmi c = search no-nmi

pub returns : goal.returns
returns c = search with-nmi
