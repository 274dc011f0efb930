-- `words::lists::first` meets its contract. Assumes nothing.
use Rattle.words.proofs.Listed.{first-is}
use Rattle.words.proofs.lists.first.Goals as goal

pub returns : goal.returns
returns c = search first-is
