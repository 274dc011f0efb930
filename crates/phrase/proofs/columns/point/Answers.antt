-- `phrase::columns::point` meets its contract. Assumes nothing.
use Rattle.phrase.proofs.Phrased.{point-put}
use Rattle.phrase.proofs.columns.point.Goals as goal

pub returns : goal.returns
returns c = search point-put
