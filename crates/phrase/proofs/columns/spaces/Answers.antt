-- `phrase::columns::spaces` meets its contract. Assumes nothing.
use Rattle.phrase.proofs.Phrased.{spaces-put}
use Rattle.phrase.proofs.columns.spaces.Goals as goal

pub returns : goal.returns
returns c = search spaces-put
