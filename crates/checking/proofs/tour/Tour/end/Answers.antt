-- `checking::tour::Tour::end` meets its contract. Assumes nothing.
use Rattle.checking.proofs.Walks.{ended-all, ended-13}
use Rattle.checking.proofs.tour.Tour.end.Goals as goal

pub returns-then-self-file : goal.returns-then-self-file
returns-then-self-file c = search ended-all

pub returns : goal.returns
returns c = search ended-13
