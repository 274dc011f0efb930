-- `splitter::split_known` meets its contract. Assumes nothing.
use Rattle.splitter.proofs.Ways.{weights-long, shares-ready, shared-none, shared-out}
use borrow.Author.Rules.{rules}
use Rattle.splitter.proofs.split_known.Goals as goal

pub returns-then-on-eq0 : goal.returns-then-on-eq0
returns-then-on-eq0 c = search shared-none

pub share_out-requires : goal.share_out-requires
share_out-requires c = (search shares-ready, search weights-long, search rules)

pub returns : goal.returns
returns c = search shared-out
