-- `explain::refused::told` meets its contract. Assumes nothing.
use Rattle.explain.proofs.Saying.{told-put}
use Rattle.explain.proofs.refused.told.Goals as goal

pub returns : goal.returns
returns c = search told-put
