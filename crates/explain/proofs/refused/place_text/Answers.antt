-- `explain::refused::place_text` meets its contract. Assumes nothing.
use Rattle.explain.proofs.Saying.{place-put}
use Rattle.explain.proofs.refused.place_text.Goals as goal

pub returns : goal.returns
returns c = search place-put
