-- `kept_days::update_of` meets its contract. Assumes nothing.
use Rattle.kept_days.proofs.update_of.Goals as goal

pub returns : goal.returns
returns c = cc
