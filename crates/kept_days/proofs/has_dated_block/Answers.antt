-- `kept_days::has_dated_block` meets its contract. Assumes nothing.
use Rattle.kept_days.proofs.Holds.{block-dated, block-undated}
use Rattle.kept_days.proofs.has_dated_block.Goals as goal

pub returns-in-Some : goal.returns-in-Some
returns-in-Some c = search (block-dated, block-undated)

pub returns-in-None : goal.returns-in-None
returns-in-None c = search (block-dated, block-undated)
