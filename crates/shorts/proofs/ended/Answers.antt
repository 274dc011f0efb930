-- `shorts::ended` meets its contract. Assumes nothing.
use Rattle.shorts.proofs.Shorts.{complete-value}
use Rattle.shorts.proofs.ended.Goals as goal

pub returns : goal.returns
returns c = search complete-value
