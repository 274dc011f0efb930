-- `explain::refused::marked` meets its contract. Assumes nothing.
use Rattle.explain.proofs.Saying.{marked-put}
use Rattle.explain.proofs.refused.marked.Goals as goal

pub returns : goal.returns
returns c = search marked-put
