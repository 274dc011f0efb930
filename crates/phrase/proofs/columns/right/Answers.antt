-- `phrase::columns::right` meets its contract. Assumes nothing.
use Rattle.phrase.proofs.Phrased.{right-put}
use Rattle.phrase.proofs.columns.right.Goals as goal

pub returns : goal.returns
returns c = search right-put
